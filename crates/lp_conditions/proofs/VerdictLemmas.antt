-- What the events of a text tell of it.
use Rattle.std.proofs.Common.{◌≡◌, ℕ, List, [], ◌∷◌, ◌++◌, map, Option, None, Result, Ok, Err, option_map, refl, sym, ap, ◌∙◌}
use Rattle.influxdb_line_protocol.specs.format.Readings.{Fault, Text}
use Rattle.influxdb_line_protocol.specs.format.Points.{Pair}
use Rattle.influxdb_line_protocol.specs.format.Values.{Value}
use Rattle.influxdb_line_protocol.specs.format.Lines.{Line, some_tags}
use Rattle.influxdb_line_protocol.specs.code.Events.{AreEventsOf, Event, TakesAll, end_of_line, events_of_line, failed, tagged, valued}
use Rattle.lp_conditions.specs.declared.verdict.Verdict.{Verdict}
use Rattle.lp_conditions.specs.Verdicts.{Judges, fault_after, fault_in}
use Rattle.lp_values.specs.code.SpelledParts.{spelled_fault}

-- the fault that was told last, once these events are told
abbrev fault_told : Option Fault → List Event → Option Fault
fault_told so_far [] = so_far
fault_told so_far (event ∷ events) = fault_told (fault_after so_far event) events

-- the fault of a verdict
abbrev fault_known : Verdict → Option Fault
fault_known v = option_map spelled_fault v.fault

-- a verdict is what the events tell
judges_all : (old new : Verdict) (events : List Event) → TakesAll Judges old events new → fault_known new ≡ fault_told (fault_known old) events
judges_all old new [] same = ap fault_known (sym same)
judges_all old new (event ∷ events) (mid, first, more) =
    judges_all mid new events more ∙ ap (λ (f : Option Fault). fault_told f events) first

-- events, and then others
told_append : (f : Option Fault) (xs ys : List Event) → fault_told f (xs ++ ys) ≡ fault_told (fault_told f xs) ys
told_append f [] ys = refl
told_append f (x ∷ xs) ys = told_append (fault_after f x) xs ys

-- no tag is a fault
told_tags : (f : Option Fault) (tags : List (Pair Text Text)) → fault_told f (map tagged tags) ≡ f
told_tags f [] = refl
told_tags f (t ∷ tags) = told_tags f tags

-- no field is a fault
told_fields : (f : Option Fault) (fields : List (Pair Text (Value Text))) → fault_told f (map valued fields) ≡ f
told_fields f [] = refl
told_fields f (x ∷ fields) = told_fields f fields

-- nothing that is told of a line is a fault
told_line : (l : Line) → fault_told None (events_of_line l) ≡ None
told_line l =
    let tags = map tagged (some_tags l.tags) in
    let fields = map valued l.fields in
    told_append None (tags ++ fields) (end_of_line l ∷ []) ∙ told_append None tags fields
    ∙ ap (λ (f : Option Fault). fault_told f fields) (told_tags None (some_tags l.tags)) ∙ told_fields None l.fields

-- a verdict on a text has its fault
pub verdict_is : (old new : Verdict) (text : List ℕ) (events : List Event) (answer : Result Line Fault) → fault_known old ≡ None
    → TakesAll Judges old events new → AreEventsOf text events answer → fault_known new ≡ fault_in answer
verdict_is old new text events (Ok line) fresh told are =
    judges_all old new events told ∙ ap (λ (f : Option Fault). fault_told f events) fresh ∙ ap (fault_told None) are ∙ told_line line
verdict_is old new text events (Err fault) fresh told are =
    judges_all old new events told ∙ ap (fault_told (fault_known old)) are.2 ∙ told_append (fault_known old) are.0 (failed fault ∷ [])
