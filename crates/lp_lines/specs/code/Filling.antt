-- A line that is filled as its parts are told.
use Rattle.std.specs.Prelude.{◌≡◌, ◌≤◌, ◌⊎◌, ◌++◌, ◌∷◌, ℕ, List, [], length, map, take, true, false, Option, Some, Result, Ok}
use Rattle.std.specs.Prelude.{Err, option_map}
use Rattle.lp_format.specs.format.{Line, some_tags, Pair, Fault, Text, Value}
use Rattle.lp_format.specs.code.Light.{is_single_field, is_single_line, is_single_tag}
use Rattle.lp_values.specs.{declared.spelled.SpelledFault.SpelledFault, code.SpelledParts.spelled_fault, code.Texts.read_of}
use Rattle.lp_lines.specs.declared.{filling.Filling.Filling, parsed.ParsedLine.ParsedLine}
use Rattle.lp_lines.specs.code.{Lookups.room_of, Lookups.tag_room, Lookups.some_items, Parsed.field_of, Parsed.tag_of}
use Rattle.lp_events.specs.code.Events.{Event, ended, failed, named, tagged, valued}

-- the first `count` elements of a set, as they are read
abbrev pub first_read : {X Y : Type 0} → (X → Y) → ℕ → List X → List Y
first_read read count items = map read (take count items)

-- the tags that were put into a line so far
abbrev pub tags_so_far : Filling → List (Pair Text Text)
tags_so_far filling = first_read tag_of filling.tag_count (some_items filling.line.now.series.tag_set)

-- the fields that were put into a line so far
abbrev pub fields_so_far : Filling → List (Pair Text (Value Text))
fields_so_far filling = first_read field_of filling.field_count filling.line.now.field_set.items

-- the measurement and the fields of a line, which a tag does not change
abbrev pub beside_tags : Filling → Text × List (Pair Text (Value Text))
beside_tags filling = (read_of filling.line.now.series.measurement, fields_so_far filling)

-- the measurement and the tags of a line, which a field does not change
abbrev pub beside_fields : Filling → Text × List (Pair Text Text)
beside_fields filling = (read_of filling.line.now.series.measurement, tags_so_far filling)

-- a line takes an event: it has the part that is told, and its other parts stay
abbrev pub Puts : Filling → Event → Filling → Type 0
Puts old (named m) new =
    (read_of new.line.now.series.measurement ≡ m) × (tags_so_far new ≡ tags_so_far old) × (fields_so_far new ≡ fields_so_far old)
Puts old (tagged t) new = (tags_so_far new ≡ tags_so_far old ++ t ∷ []) × (beside_tags new ≡ beside_tags old)
Puts old (valued f) new = (fields_so_far new ≡ fields_so_far old ++ f ∷ []) × (beside_fields new ≡ beside_fields old)
Puts old (ended series timestamp) new = (new.line.now.series.raw_input.now ≡ series) × (new.line.now.timestamp ≡ timestamp)
    × (beside_tags new ≡ beside_tags old) × (tags_so_far new ≡ tags_so_far old)
Puts old (failed fault) new = Unit {0}

-- an event needs memory for a line: its part is a copy, or the line has no room left for it
abbrev pub NeedsRoom : Filling → Event → Type 0
NeedsRoom old (named m) = m.is_single ≡ false
NeedsRoom old (tagged t) = (is_single_tag t ≡ false) ⊎ (tag_room old.line.now.series.tag_set ≤ length (tags_so_far old))
NeedsRoom old (valued f) = (is_single_field f ≡ false) ⊎ (old.line.now.field_set.capacity ≤ length (fields_so_far old))
NeedsRoom old (ended series timestamp) = ⊥
NeedsRoom old (failed fault) = ⊥

-- the fault that is kept after an event: the event's fault, or the fault that was kept before
abbrev pub KeepsFault : Option SpelledFault → Event → Option SpelledFault → Type 0
KeepsFault old (failed fault) new = option_map spelled_fault new ≡ Some fault
KeepsFault old event new = new ≡ old

-- the rooms of a line for tags and fields do not shrink
pub record KeepsRooms (old new : ParsedLine) : Type 0 where
  pub set : room_of old.series.tag_set ≤ room_of new.series.tag_set
  pub tags : tag_room old.series.tag_set ≤ tag_room new.series.tag_set
  pub fields : old.field_set.capacity ≤ new.field_set.capacity

-- an event fills a line unless memory was refused, now or before; memory is refused only if the event needs some
pub record FillsBy (old : Filling) (event : Event) (new : Filling) : Type 0 where
  pub same : new.line.ghost_name ≡ old.line.ghost_name
  pub rooms : KeepsRooms old.line.now new.line.now
  pub fault : KeepsFault old.fault event new.fault
  pub puts : new.refused ≡ false → (old.refused ≡ false) × Puts old event new
  pub needs : new.refused ≡ true → (old.refused ≡ true) ⊎ NeedsRoom old event

-- a line that is filled has the series text, measurement, tags, fields and timestamp of the line that was read
pub record HasRead (filling : Filling) (l : Line) : Type 0 where
  pub series : filling.line.now.series.raw_input.now ≡ l.series
  pub measurement : read_of filling.line.now.series.measurement ≡ l.measurement
  pub tags : tags_so_far filling ≡ some_tags l.tags
  pub fields : fields_so_far filling ≡ l.fields
  pub timestamp : filling.line.now.timestamp ≡ l.timestamp

-- the events of a line were told: the line is filled, unless it has a copy, or more tags or fields than there is room for
pub record FilledLine (old : Filling) (l : Line) (new : Filling) : Type 0 where
  pub fault : new.fault ≡ old.fault
  pub read : new.refused ≡ false → HasRead new l
  pub fits : is_single_line l ≡ true → length (some_tags l.tags) ≤ tag_room old.line.now.series.tag_set
      → length l.fields ≤ old.line.now.field_set.capacity → new.refused ≡ false

-- the events of an answer were told: the line of the answer is filled, or its fault is kept
abbrev pub FillsAnswer : Filling → Result Line Fault → Filling → Type 0
FillsAnswer old (Ok l) new = FilledLine old l new
FillsAnswer old (Err fault) new = option_map spelled_fault new.fault ≡ Some fault
