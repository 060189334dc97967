-- The events of a line, which a reader of lines tells to a sink.
use Rattle.std.specs.Prelude.{◌≡◌, ◌⊎◌, ◌++◌, ◌≤◌, ℕ, ℤ, List, [], ◌∷◌, map, drop, length, Option, Some, None, Result, Ok, Err}
use Rattle.std.specs.Borrow.{Bor}
use Rattle.lp_format.specs.format.{space, Dialect, Line, after_comma, answers_of_piece, byte, field, field_set, separated_list, some_tags, spaces, tag, tag_set}
use Rattle.lp_format.specs.format.{Pieces.Pieces, a_measurement, name, Pair, Fault, Reading, Text, miss, fatal, reads, trimmed, Value, ◌>>=◌}
use Rattle.lp_values.specs.declared.{spelled.Spelled.Spelled, spelled.SpelledFault.SpelledFault, spelled.SpelledValue.SpelledValue}
use Rattle.lp_values.specs.code.SpelledParts.{spelled_fault, spelled_text, spelled_value}

-- an event of a line: its measurement, a tag, a field, its end with the text of its series and its timestamp, or its fault
pub data Event : Type 0 where
  named : Text → Event
  tagged : Pair Text Text → Event
  valued : Pair Text (Value Text) → Event
  ended : List ℕ → Option ℤ → Event
  failed : Fault → Event

-- the events of a measurement, of tags and of fields, in order
abbrev pub front_events : Text → List (Pair Text Text) → List (Pair Text (Value Text)) → List Event
front_events measurement tags fields = named measurement ∷ map tagged tags ++ map valued fields

-- the event of the end of a line, with its series text and its timestamp
abbrev pub end_of_line : Line → Event
end_of_line l = ended l.series l.timestamp

-- the events of a line that was read: its measurement, each of its tags, each of its fields and its end, in order
abbrev pub events_of_line : Line → List Event
events_of_line l = front_events l.measurement (some_tags l.tags) l.fields ++ end_of_line l ∷ []

-- reads one or more spaces, and then what `one` reads after them
abbrev pub after_spaces : {A : Type 0} → (List ℕ → Reading A) → List ℕ → Reading A
after_spaces one text = byte space text >>= λ gap. one (drop (spaces text) text)

-- the parts are at the start of `text`, the first read by `first` and the others by `next`, and `rest` follows them
abbrev pub AreRead : {A : Type 0} → (List ℕ → Reading A) → (List ℕ → Reading A) → List A → List ℕ → List ℕ → Type 0
AreRead first next [] text rest = text ≡ rest
AreRead first next (x ∷ xs) text rest = (after : List ℕ) × (first text ≡ reads x after) × AreRead next next xs after rest

-- a measurement, tags and fields are at the start of a line: each tag after a comma, the first field after spaces, and each other field after
-- a comma
pub record AreAtStart (line : List ℕ) (measurement : Text) (tags : List (Pair Text Text)) (fields : List (Pair Text (Value Text)))
    : Type 0 where
  pub after_name : List ℕ
  pub after_tags : List ℕ
  pub rest : List ℕ
  pub named : name a_measurement line ≡ reads measurement after_name
  pub tags_are : AreRead (after_comma tag) (after_comma tag) tags after_name after_tags
  pub fields_are : AreRead (after_spaces field) (after_comma field) fields after_tags rest

-- a front of the events of a line: no event, or a measurement and tags and fields that are at the start of the line
abbrev pub AreFrontEvents : List ℕ → List Event → Type 0
AreFrontEvents line events =
    (events ≡ [])
    ⊎ ((measurement : Text) × (tags : List (Pair Text Text)) × (fields : List (Pair Text (Value Text)))
    × AreAtStart line measurement tags fields × (events ≡ front_events measurement tags fields))

-- the longest front of the events of a line: all parts that read before reading stops
pub record AreLongestFront (line : List ℕ) (events : List Event) : Type 0 where
  pub front : AreFrontEvents line events
  pub longest : (others : List Event) → AreFrontEvents line others → length others ≤ length events

-- the events of a line with this answer: the events of the line that was read, or the longest front of its events and then the fault
abbrev pub AreEventsOf : List ℕ → List Event → Result Line Fault → Type 0
AreEventsOf line events (Ok l) = events ≡ events_of_line l
AreEventsOf line events (Err fault) = (front : List Event) × AreLongestFront line front × (events ≡ front ++ failed fault ∷ [])

-- the events of a piece: the events of its line, by the answer for it, or no events if the piece has no answer
abbrev pub AreEventsOfPiece : Dialect → List Event → List ℕ → Type 0
AreEventsOfPiece dialect events piece = by_answer (answers_of_piece dialect piece)
  where
    by_answer : List (Result Line Fault) → Type 0
    by_answer [] = events ≡ []
    by_answer (answer ∷ others) = AreEventsOf (trimmed piece) events answer

-- the events of pieces, one piece after another
abbrev pub AreEventsOfAll : Dialect → List Event → List (List ℕ) → Type 0
AreEventsOfAll dialect events [] = events ≡ []
AreEventsOfAll dialect events (piece ∷ pieces) =
    (first others : List Event) × (events ≡ first ++ others) × AreEventsOfPiece dialect first piece × AreEventsOfAll dialect others pieces

-- the events of a text are the events of its pieces
pub record AreEventsOfText (dialect : Dialect) (text : List ℕ) (events : List Event) : Type 0 where
  pub pieces : List (List ℕ)
  pub has : Pieces dialect text pieces
  pub are : AreEventsOfAll dialect events pieces

-- a sink comes from the state `before` to the state `after` if it takes these events, one after another
abbrev pub TakesAll : {S : Type 0} → (S → Event → S → Type 0) → S → List Event → S → Type 0
TakesAll takes before [] after = before ≡ after
TakesAll {S} takes before (event ∷ events) after = (next : S) × takes before event next × TakesAll takes next events after

-- the sink was told these events and no others, and `Are` holds of the events
pub record WasTold {S : Type 0} (takes : S → Event → S → Type 0) (before after : S) (Are : List Event → Type 0) : Type 0 where
  pub events : List Event
  pub told : TakesAll takes before events after
  pub are : Are events

-- the sink was told these parts, each by its event, and no others, and `Are` holds of the parts
pub record WasToldParts {S A : Type 0} (takes : S → Event → S → Type 0) (event : A → Event) (before after : S)
    (Are : List A → Type 0) : Type 0 where
  pub parts : List A
  pub told : TakesAll takes before (map event parts) after
  pub are : Are parts

-- the tag that a spelled tag is read as
abbrev pub spelled_tag : Spelled × Spelled → Pair Text Text
spelled_tag t = record { key = spelled_text t.0; value = spelled_text t.1 }

-- the field that a spelled field is read as
abbrev pub spelled_field : Spelled × SpelledValue → Pair Text (Value Text)
spelled_field f = record { key = spelled_text f.0; value = spelled_value f.1 }

-- the most parts that are at the start of `text`, the first read by `first` and the others by `next`; `rest` follows them
pub record AreMost {A : Type 0} (first next : List ℕ → Reading A) (text : List ℕ) (parts : List A) (rest : List ℕ) : Type 0 where
  pub are : AreRead first next parts text rest
  pub most : (others : List A) (after : List ℕ) → AreRead first next others text after → length others ≤ length parts

-- the reader of the part after `parts`: `first` if there are none, else `next`
abbrev pub reader_after : {A : Type 0} → (List ℕ → Reading A) → (List ℕ → Reading A) → List A → List ℕ → Reading A
reader_after first next [] = first
reader_after first next (x ∷ xs) = next

-- reading parts that are joined by commas gives this fault: `parts` are the most that read, and the part after them has the fault
pub record AreBeforeFault {A : Type 0} (one : List ℕ → Reading A) (text : List ℕ) (parts : List A) (fault : Fault) : Type 0 where
  pub rest : List ℕ
  pub most : AreMost one (after_comma one) text parts rest
  pub next : reader_after one (after_comma one) parts rest ≡ fatal fault
  pub given : separated_list one text ≡ fatal fault

-- the result of the code, the number of the parts and their rest, is the reading of these parts, which are the most that read; or the part
-- after them has the fault
abbrev pub AreCounted : {A : Type 0} → Result (Option (ℕ × Bor (List ℕ))) SpelledFault → (List ℕ → Reading A) → List ℕ → List A → Type 0
AreCounted (Ok None) one text parts = (one text ≡ miss) × (parts ≡ [])
AreCounted (Ok (Some p)) one text parts =
    (p.0 ≡ length parts) × (separated_list one text ≡ reads parts p.1.now) × AreMost one (after_comma one) text parts p.1.now
AreCounted (Err e) one text parts = AreBeforeFault one text parts (spelled_fault e)

-- the result of the code is the rest after these fields, which are the most that read; or the field after them has the fault
abbrev pub AreFields : Result (Option (Bor (List ℕ))) SpelledFault → Dialect → List ℕ → List (Pair Text (Value Text)) → Type 0
AreFields (Ok None) dialect text parts = (field text ≡ miss) × (parts ≡ [])
AreFields (Ok (Some rest)) dialect text parts =
    (field_set dialect text ≡ reads parts rest.now) × (end : List ℕ) × AreMost field (after_comma field) text parts end
AreFields (Err e) dialect text parts = AreBeforeFault field text parts (spelled_fault e)

-- the result of the code is the rest after the tags of a tag set, or the fault of the tag set, after which no space comes; in both cases
-- `parts` are the most tags that read
abbrev pub AreTags : Result (Bor (List ℕ)) SpelledFault → List ℕ → List (Pair Text Text) → Type 0
AreTags (Ok rest) text parts =
    (set : Option (List (Pair Text Text))) × (tag_set text ≡ Ok (record { value = set; rest = rest.now })) × (some_tags set ≡ parts)
    × AreMost (after_comma tag) (after_comma tag) text parts rest.now
AreTags (Err e) text parts =
    (tag_set text ≡ Err (spelled_fault e)) × (rest : List ℕ) × AreMost (after_comma tag) (after_comma tag) text parts rest
    × (byte space rest ≡ miss)

-- the result of the code is by the answer for the line, and the events are the events of the line, or if there is a fault the longest front of
-- them
abbrev pub AreToldBefore : {X : Type 0} → Result X SpelledFault → List ℕ → Result Line Fault → List Event → Type 0
AreToldBefore (Ok done) line answer events = (l : Line) × (answer ≡ Ok l) × (events ≡ events_of_line l)
AreToldBefore (Err e) line answer events = (answer ≡ Err (spelled_fault e)) × AreLongestFront line events
