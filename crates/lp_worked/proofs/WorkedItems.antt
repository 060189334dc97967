-- Worked lines about iterators, and about the places where reading stops: an example that each relation covers, and one just outside.
use Rattle.std.proofs.Common.{◌≡◌, ◌++◌, ℕ, List, [], ◌∷◌, map, length, None, Some, Ok, Err, refl, sym, ap, subst, codes, arith, pos, length-append}
use Rattle.lp_format.specs.format.{Strict, NewlineDelimited, integer, trimmed}
use Rattle.lp_format.specs.format.{measurement_value_invalid, a_measurement, miss, name, logical_field}
use Rattle.lp_format.specs.format.Pieces.{Pieces.cut}
use Rattle.lp_format.specs.code.Light.{is_light, is_light_in, tags_in, fields_in}
use Rattle.lp_format.specs.laws.MeaningsOfAnswers.{IsAnswer, IsAnswer.no_measurement}
use Rattle.lp_format.proofs.lemmas.split.SplitPieces.{same_pieces}
use Rattle.lp_values.specs.declared.error.Error.TheVariants as error
use Rattle.lp_lines.specs.declared.parsed.ParsedLine.{ParsedLine}
use Rattle.lp_lines.specs.code.Parsed.{IsReadLine, line_read}
use Rattle.lp_lines.specs.code.ParseSteps.{GivesItem}
use Rattle.lp_written.proofs.lemmas.points.LinesArePoints.{lines_are_points}
use Rattle.lp_portable.proofs.AnsweredAlike.{no_newline}
use Rattle.lp_events.specs.code.Events.{AreEventsOfAll, ended, named, valued}
use Rattle.lp_events.specs.code.EventsLeft.{GivesEvent, HasEventsLeft}
use Rattle.lp_events.specs.declared.{place.LinePlace.TheVariants.Between, pull.ParseEvents.ParseEvents}
use Rattle.lp_events.specs.declared.stops.LinePart.TheVariants.{Measurement}
use Rattle.influxdb_line_protocol.specs.laws.GivenItems.{AreItemsOf, AreAnswers}
use Rattle.influxdb_line_protocol.specs.laws.StopLaws.{IsStopByRow}
use Rattle.lp_worked.proofs.WorkedTexts.{on_texts, one_line, part}
use Rattle.lp_worked.proofs.WorkedStreams.{one_alone}

-- The fault of `m f="a` is its item.
pub a_fault_is_an_item : AreItemsOf NewlineDelimited (codes "m f=\"a" ∷ []) (Err error.FieldSetMissing ∷ [])
unfolding on_texts
a_fault_is_an_item = (record { answers = refl; light = λ light never. cc; tags = tt; columns_fit = tt }, tt)

-- No item is left out: the line `m f="a` has an item.
pub no_item_is_left_out : ¬ AreItemsOf NewlineDelimited (codes "m f=\"a" ∷ []) []
no_item_is_left_out h = h

-- `OutOfMemory` may be in the place of an answer.
pub no_memory_in_its_place : AreAnswers (Err error.OutOfMemory ∷ []) (Ok one_line ∷ [])
no_memory_in_its_place = (tt, tt)

-- No fault other than `OutOfMemory` may be in the place of a line.
pub no_fault_in_its_place : ¬ AreAnswers (Err error.FieldSetMissing ∷ []) (Ok one_line ∷ [])
no_fault_in_its_place h = absurd (cc (h.0))

-- Each line with the content of `m f=1i` was read.
pub this_line_was_read : (line : ParsedLine) → line_read line ≡ one_line → IsReadLine line
unfolding on_texts
this_line_was_read line is = record { dialect = Strict; text = codes "m f=1i"; answered = ap Ok (sym is) }

-- the row of a text without a measurement
abbrev no_name : name a_measurement (codes ",t=x f=1i") ≡ miss → IsAnswer Strict (codes ",t=x f=1i") (Err measurement_value_invalid)
no_name missed = no_measurement missed

-- In `,t=x f=1i` reading stops at the measurement, before any byte.
pub it_stops_at_the_measurement : (missed : name a_measurement (codes ",t=x f=1i") ≡ miss) → IsStopByRow (no_name missed) (Measurement, codes ",t=x f=1i")
it_stops_at_the_measurement missed = refl

-- Reading `,t=x f=1i` does not stop after the comma.
pub it_does_not_stop_later : (missed : name a_measurement (codes ",t=x f=1i") ≡ miss) → ¬ IsStopByRow (no_name missed) (Measurement, codes "t=x f=1i")
it_does_not_stop_later missed h = omega (arith, ap (λ p. length p.1) h)

-- No line without a field was read.
pub no_line_without_field : (line : ParsedLine) → (line_read line).fields ≡ [] → ¬ IsReadLine line
no_line_without_field line none h =
    let point = lines_are_points h.dialect (trimmed h.text) (line_read line) h.answered in
    omega (arith, point.some_field, ap (λ fs. length (map logical_field fs)) none)

-- The first call for `m f="a⏎m f=2i` gives the fault of its first line, and leaves the second.
pub a_call_gives_a_fault : GivesItem (record { dialect = NewlineDelimited; text = Some (codes "m f=\"a\nm f=2i") })
    (Some (Err error.FieldSetMissing)) (record { dialect = NewlineDelimited; text = Some (codes "m f=2i") })
unfolding on_texts
a_call_gives_a_fault = (
  refl,
  λ others left. record {
    skipped = [];
    piece = codes "m f=\"a";
    left = cut (codes "m f=\"a") (codes "m f=2i") others (no_newline (codes "m f=\"a") refl) left;
    blank = grind arith;
    some = omega arith;
    item_is = a_fault_is_an_item.0;
  },
)

-- the last piece of a list of one
last_is : (skipped : List (List ℕ)) (piece only : List ℕ) → skipped ++ piece ∷ [] ≡ only ∷ [] → piece ≡ only
last_is [] piece only h = cc
last_is (s ∷ more) piece only h = absurd (omega (arith, ap length h, length-append more (piece ∷ [])))

-- A call never gives `OutOfMemory` for `m f=1i`, because this line is light.
pub a_light_line_has_memory : ¬ GivesItem (record { dialect = Strict; text = Some (codes "m f=1i") })
    (Some (Err error.OutOfMemory)) (record { dialect = Strict; text = None })
unfolding on_texts is_light_in tags_in fields_in
a_light_line_has_memory h =
    let gave = h.1 [] refl in
    let piece = last_is gave.skipped gave.piece (codes "m f=1i") (same_pieces Strict refl gave.left one_alone) in
    gave.item_is.light (ap (λ (p : List ℕ). is_light Strict (trimmed p)) piece) refl

-- A reader of events before the text `m f=1i`, and a reader of events at the end of the text.
abbrev before_text : ParseEvents
before_text = record { lines = record { dialect = Strict; text = Some (codes "m f=1i") }; place = Between }

abbrev at_end : ParseEvents
at_end = record { lines = record { dialect = Strict; text = None }; place = Between }

-- Before the text `m f=1i`, three events are left: its measurement, its field and its end.
pub events_are_left : HasEventsLeft before_text (named (part "m") ∷ valued (record { key = part "f"; value = integer (pos 1) }) ∷ ended (codes "m") None ∷ [])
unfolding on_texts
events_are_left = record { pieces = codes "m f=1i" ∷ []; are_left = one_alone; are = (_, [], refl, refl, refl) }

-- At the end of the text, no event is left.
pub no_event_is_left : ¬ HasEventsLeft at_end (ended (codes "m") None ∷ [])
no_event_is_left h = omega (arith, ap length (subst (AreEventsOfAll Strict (ended (codes "m") None ∷ [])) h.are_left h.are))

-- nothing is left there
end_is_left : HasEventsLeft at_end []
end_is_left = record { pieces = []; are_left = refl; are = refl }

-- A call at the end gives no event.
pub a_call_gives_none : GivesEvent at_end None at_end
a_call_gives_none = (end_is_left, end_is_left, refl)

-- A call before `m f=1i` does not give none.
pub a_call_gives_one : ¬ GivesEvent before_text None at_end
unfolding on_texts
a_call_gives_one h =
    let all = subst (AreEventsOfAll Strict []) (same_pieces Strict refl h.0.are_left one_alone) h.0.are in
    omega (arith, ap length all.2, ap length all.3, length-append all.0 all.1)
