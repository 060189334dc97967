-- The events that are left of a text, from a place in one of its lines on.
use Rattle.std.specs.Prelude.{◌≡◌, ℕ, ◌+◌, ◌<◌, ◌==◌, Bool, List, [], ◌∷◌, ◌++◌, drop, length, Option, Some, None, Result}
use Rattle.std.specs.Prelude.{Ok, Err}
use Rattle.lp_format.specs.format.{space, after_comma, answer, byte, field, front_before}
use Rattle.lp_format.specs.format.{some_tags, spaces, tag, tag_set, a_measurement, name, Left, PiecesLeft, most_pieces, Pair, Text}
use Rattle.lp_format.specs.format.{reads, Value}
use Rattle.lp_values.specs.code.SpelledParts.{spelled_fault, spelled_text}
use Rattle.lp_values.specs.declared.spelled.SpelledFault.{SpelledFault}
use Rattle.lp_events.specs.code.Events.{AreEventsOf, AreEventsOfAll, AreMost, AreRead, Event, ended, failed, front_events, named}
use Rattle.lp_events.specs.code.Events.{spelled_field, spelled_tag, tagged, valued}
use Rattle.lp_events.specs.declared.pull.Event.TheVariants.{Measurement, Tag, Field, End, Fault}
use Rattle.lp_events.specs.declared.{place.LinePlace.LinePlace, place.LinePlace.TheVariants.Between, place.LinePlace.TheVariants.Names}
use Rattle.lp_events.specs.declared.{place.LinePlace.TheVariants.Fields, pull.ParseEvents.ParseEvents}
use Rattle.lp_events.specs.declared.pull.Event as given

-- the event that a sink is told for an event that a call gives
abbrev pub told : given.Event → Event
told (Measurement text) = named (spelled_text text)
told (Tag key value) = tagged (spelled_tag (key, value))
told (Field key value) = valued (spelled_field (key, value))
told (End series timestamp) = ended series.now timestamp
told (Fault fault) = failed (spelled_fault fault)

-- the measurement and these tags of a line were read, `rest` follows them, and more tags can follow
pub record NamesRead (line : List ℕ) (measurement : Text) (tags : List (Pair Text Text)) (rest : List ℕ) (is_first : Bool) : Type 0 where
  pub start : List ℕ
  pub name_is : name a_measurement line ≡ reads measurement start
  pub tags_are : AreRead (after_comma tag) (after_comma tag) tags start rest
  pub first_is : is_first ≡ (length tags == 0)

-- these are the measurement and all tags of a line, and `rest` follows them
pub record SeriesRead (line : List ℕ) (measurement : Text) (tags : List (Pair Text Text)) (rest : List ℕ) : Type 0 where
  pub start : List ℕ
  pub set : Option (List (Pair Text Text))
  pub name_is : name a_measurement line ≡ reads measurement start
  pub most : AreMost (after_comma tag) (after_comma tag) start tags rest
  pub set_is : tag_set start ≡ Ok (record { value = set; rest = rest })
  pub tags_are : some_tags set ≡ tags

-- the series of a line and these fields were read, `rest` follows them, and more fields can follow; `is_first` says whether there is only one
-- field
pub record FieldsRead (line series : List ℕ) (measurement : Text) (tags : List (Pair Text Text)) (fields : List (Pair Text (Value Text)))
    (rest : List ℕ) (is_first : Bool) : Type 0 where
  pub after : List ℕ
  pub gap : List ℕ
  pub series_read : SeriesRead line measurement tags after
  pub series_is : series ≡ front_before line after
  pub gap_is : byte space after ≡ reads space gap
  pub some : 0 < length fields
  pub fields_are : AreRead field (after_comma field) fields (drop (spaces after) after) rest
  pub first_is : is_first ≡ (length fields == 1)

-- the events of the pieces that are left
pub record AreEventsLeft (left : Left) (events : List Event) : Type 0 where
  pub pieces : List (List ℕ)
  pub are_left : PiecesLeft left pieces
  pub are : AreEventsOfAll left.dialect events pieces

-- the first of `events`, after the events `front` that were given, complete the events of the line, and the others are the events of the
-- pieces that are left
pub record Completes (line : List ℕ) (front : List Event) (left : Left) (events : List Event) : Type 0 where
  pub first : List Event
  pub others : List Event
  pub events_are : events ≡ first ++ others
  pub line_is : AreEventsOf line (front ++ first) (answer left.dialect line)
  pub others_are : AreEventsLeft left others

-- these events are left after the series of a line, whichever measurement and tags the line has
abbrev pub AreLeftAfterSeries : List ℕ → List ℕ → Left → List Event → Type 0
AreLeftAfterSeries line rest left events =
    (measurement : Text) (tags : List (Pair Text Text)) → SeriesRead line measurement tags rest
    → Completes line (front_events measurement tags []) left events

-- these events are left from a place on, whatever was read of its line
abbrev pub AreLeftFrom : LinePlace → Left → List Event → Type 0
AreLeftFrom Between left events = AreEventsLeft left events
AreLeftFrom (Names p) left events =
    (measurement : Text) (tags : List (Pair Text Text)) → NamesRead p.line.now measurement tags p.rest.now p.is_first
    → Completes p.line.now (front_events measurement tags []) left events
AreLeftFrom (Fields p) left events =
    (line : List ℕ) (measurement : Text) (tags : List (Pair Text Text)) (fields : List (Pair Text (Value Text)))
    → FieldsRead line p.series.now measurement tags fields p.rest.now p.is_first
    → Completes line (front_events measurement tags fields) left events

-- a step gives the first of the events that are left, and leaves the others; a fault is the last event of its line
abbrev pub Steps : (Left → List Event → Type 0) → Result (given.Event × LinePlace) SpelledFault → Type 0
Steps Are (Ok p) = (left : Left) (others : List Event) → AreLeftFrom p.1 left others → Are left (told p.0 ∷ others)
Steps Are (Err fault) =
    (left : Left) (others : List Event) → AreEventsLeft left others → Are left (failed (spelled_fault fault) ∷ others)

-- these events are left for a reader to give
abbrev pub HasEventsLeft : ParseEvents → List Event → Type 0
HasEventsLeft reader events = AreLeftFrom reader.place reader.lines events

-- the greatest number of events that can be left of a line from a place on
abbrev pub most_of_line : LinePlace → ℕ
most_of_line Between = 0
most_of_line (Names p) = length p.rest.now + 1
most_of_line (Fields p) = length p.rest.now + 1

-- the greatest number of events that a reader can have left
abbrev pub most_events : ParseEvents → ℕ
most_events reader = most_of_line reader.place + most_pieces reader.lines.text

-- a call gives the first of the events that are left and leaves the others, or gives `None` if no event is left, and then no event can come
abbrev pub GivesEvent : ParseEvents → Option given.Event → ParseEvents → Type 0
GivesEvent before None after = HasEventsLeft before [] × HasEventsLeft after [] × (most_events after ≡ 0)
GivesEvent before (Some event) after = (others : List Event) → HasEventsLeft after others → HasEventsLeft before (told event ∷ others)
