-- What the sink of the parts of a line does with each, and what it has put at the end.
use Rattle.std.specs.Prelude.{◌≡◌, ◌<◌, ◌≤◌, ◌+◌, ◌-◌, ◌^◌, ◌==◌, ℕ, ℤ, List, [], ◌∷◌, false, drop, length, min, not, pos, take}
use Rattle.std.specs.Prelude.{Option, Some, Result, if◌then◌else◌}
use Rattle.std.specs.List.{sum_by}
use Rattle.influxdb_line_protocol.specs.code.Events.{Event, ended, failed, named, tagged, valued}
use Rattle.influxdb_line_protocol.specs.code.OwnBases.{TellsBase}
use Rattle.influxdb_line_protocol.specs.format.Lines as format
use Rattle.influxdb_line_protocol.specs.format.Points.{Pair}
use Rattle.influxdb_line_protocol.specs.format.Readings.{Fault, Text}
use Rattle.influxdb_line_protocol.specs.format.Values.{Value}
use Rattle.influxdb_line_protocol.specs.types.SpelledFault.{SpelledFault}
use Rattle.lp_lines.specs.code.Filling.{KeepsFault}
use Rattle.lp_c.specs.Crossing.{CountsLine, ShowsLine, copied_field, copied_tag, copied_text, field_shown, tag_shown, text_shown, timestamp_shown}
use Rattle.lp_offsets.specs.Numbers.{fault_number, side_number}
use Rattle.lp_offsets.specs.Rooms.{Grows, Shows, TakesRoom}
use Rattle.lp_offsets.specs.Sinks.{Keeps, Lent, TellsAnswer, TellsEnd, TellsName, TellsPart}
use Rattle.lp_c.specs.declared.telling.Telling.{Telling}
use Rattle.lp_offsets.specs.declared.enums.FaultKind.{FaultKind}
use Rattle.lp_c.specs.declared.views.Line.{Line}
use Rattle.lp_c.specs.declared.views.Part.{Part}
use Rattle.lp_offsets.specs.declared.enums.Side.{Side}
use Rattle.lp_c.specs.declared.views.View.{View}

-- how many bytes of the room a view waits for
abbrev pub view_len : View → ℕ
view_len view = if view.copied then length view.text.now else 0

-- a view with the front of the room as its text, if it waits for a copy
abbrev pub filled_view : List ℕ → View → View
filled_view room view =
    record view { text = record view.text { now = if view.copied then take (length view.text.now) room else view.text.now } }

-- how many bytes of the room a part waits for
abbrev pub part_len : Part → ℕ
part_len part = view_len part.key + view_len part.text

-- a part with its copies at the front of the room
abbrev pub filled_part : List ℕ → Part → Part
filled_part room part =
    record part { key = filled_view room part.key; text = filled_view (drop (view_len part.key) room) part.text }

-- parts with their copies at the front of the room, in order
abbrev pub filled_parts : List ℕ → List Part → List Part
filled_parts room [] = []
filled_parts room (part ∷ parts) = filled_part room part ∷ filled_parts (drop (part_len part) room) parts

-- the text that a view shows once it has its copy, from this place of the room on
abbrev pub view_filled : List ℕ → ℕ → View → Text
view_filled room at view = text_shown (filled_view (drop at room) view)

-- the tag that a part shows then
abbrev pub tag_filled : List ℕ → ℕ → Part → Option (Pair Text Text)
tag_filled room at part = tag_shown (filled_part (drop at room) part)

-- the field that a part shows then
abbrev pub field_filled : List ℕ → ℕ → Part → Option (Pair Text (Value Text))
field_filled room at part = field_shown (filled_part (drop at room) part)

-- so many bytes of copies were put into the room after so many others, if it has room for all, and what waits for them shows this then;
-- all are counted
pub record PutsCopy {A B : Type 0} (filled : List ℕ → ℕ → A → B) (size : A → ℕ) (copied : ℕ) (x : B) (old : List ℕ) (len : ℕ) (waits : A)
    (new : List ℕ) (all : ℕ) : Type 0 where
  pub grows : Grows old len new all
  pub counted : all ≡ min (len + copied) (2 ^ 64 - 1)
  pub shows : Shows (λ r. filled r len waits) new all x
  pub takes : TakesRoom new len all (size waits)

-- what is lent to a sink, and what it counted
abbrev pub lent_of : Telling → Lent View Part
lent_of s = record {
  text = s.text.now;
  name = s.line.now.measurement;
  parts = s.parts.now;
  room = s.room.now.bytes.now;
  used = s.copied_len;
  tags = s.tags;
  fields = s.fields;
}

-- how many bytes of room an event takes
abbrev pub event_copied : Event → ℕ
event_copied (named name) = copied_text name
event_copied (tagged tag) = copied_tag tag
event_copied (valued field) = copied_field field
event_copied (ended series timestamp) = 0
event_copied (failed fault) = 0

-- the line that a sink has told: what is counted is put into it last
abbrev pub told_line : Telling → Line
told_line s = record s.line.now { tags = s.tags; fields = s.fields; copied_len = s.copied_len }

-- a line of this text and of so many tags ends, with this series text and this timestamp; it has a tag set if it has tags, and no
-- fault, and tells whether the series text is its base
pub record EndsLine (told : List ℕ) (tags : ℕ) (text : List ℕ) (time : Option ℤ) (new : Line) : Type 0 where
  pub series : new.series.now ≡ text
  pub has_tag_set : new.has_tag_set ≡ not (tags == 0)
  pub timestamp : timestamp_shown new ≡ time
  pub no_timestamp : new.has_timestamp ≡ false → new.timestamp ≡ pos 0
  pub base : TellsBase told new.series_is_base
  pub fault : new.fault ≡ fault_number FaultKind.None
  pub side : new.side ≡ side_number Side.Neither

-- what the sink does with an event
abbrev pub Does : Telling → Event → Telling → Type 0
Does old (named name) new = TellsName (λ text. view_filled) view_len name (lent_of old) (lent_of new)
Does old (tagged tag) new = TellsPart (λ text. tag_filled) part_len (λ s. s.tags) (λ s. s.fields) (Some tag) (lent_of old) (lent_of new)
Does old (valued field) new = TellsPart (λ text. field_filled) part_len (λ s. s.fields) (λ s. s.tags) (Some field) (lent_of old) (lent_of new)
Does old (ended series timestamp) new =
    EndsLine old.text.now old.tags series timestamp new.line.now × TellsEnd (lent_of old) (lent_of new)
Does old (failed fault) new = Unit {0}

-- the sink takes an event of its line: it puts it into the same memory, and keeps a fault
pub record Tells (old : Telling) (event : Event) (new : Telling) : Type 0 where
  pub line : new.line.ghost_name ≡ old.line.ghost_name
  pub parts : new.parts.ghost_name ≡ old.parts.ghost_name
  pub room : new.room.ghost_name ≡ old.room.ghost_name
  pub keeps : Keeps (lent_of old) (lent_of new)
  pub counted : old.copied_len < 2 ^ 64 → new.copied_len ≡ min (old.copied_len + event_copied event) (2 ^ 64 - 1)
  pub fault : KeepsFault old.fault event new.fault
  pub does : Does old event new

-- a line with its copy at the front of the room
abbrev pub filled_line : List ℕ → Line → Line
filled_line room line = record line { measurement = filled_view room line.measurement }

-- the parts of a line
abbrev pub own_parts : Line → List Part → List Part
own_parts line parts = take (line.tags + line.fields) parts

-- how many bytes of the room a line and its parts wait for
abbrev pub waits_for : Line → List Part → ℕ
waits_for line parts = view_len line.measurement + sum_by part_len (own_parts line parts)

-- the parts of a line with their copies in the room, after that of the measurement
abbrev pub filled_own : List ℕ → Line → List Part → List Part
filled_own room line parts = filled_parts (drop (view_len line.measurement) room) (own_parts line parts)

-- a line and its parts show this line once their copies are at the front of the room
pub record WaitsLine (read : format.Line) (line : Line) (parts : List Part) (room : List ℕ) : Type 0 where
  pub takes : waits_for line parts ≡ line.copied_len
  pub shows : ShowsLine read (filled_line room line) (filled_own room line parts)

-- a line was told: it is counted; and its parts and its copies are put, if parts and room suffice
pub record ToldLine (read : format.Line) (line : Line) (parts : List Part) (room : List ℕ) : Type 0 where
  pub counts : CountsLine read line
  pub waits : line.tags + line.fields ≤ length parts → line.copied_len ≤ length room → WaitsLine read line parts room

-- what the format answers for a line was told: the line, or the fault that is kept
abbrev pub Told : Result format.Line Fault → Option SpelledFault → Line → List Part → List ℕ → Type 0
Told answer kept line parts room = TellsAnswer answer kept (λ read. ToldLine read line parts room)
