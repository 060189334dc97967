-- What the sink of the parts of a line puts down of each, by offsets.
use Rattle.std.specs.Prelude.{◌≡◌, ◌<◌, ◌≤◌, ◌+◌, ◌^◌, ℕ, List, Option, Some, Result, drop, length, map, take}
use Rattle.std.specs.List.{sum_by}
use Rattle.influxdb_line_protocol.specs.code.Events.{Event, ended, failed, named, tagged, valued}
use Rattle.influxdb_line_protocol.specs.format.Lines as format
use Rattle.influxdb_line_protocol.specs.format.Lines.{logical_field, logical_tag, some_tags}
use Rattle.influxdb_line_protocol.specs.format.Points.{Pair}
use Rattle.influxdb_line_protocol.specs.format.Readings.{Fault}
use Rattle.influxdb_line_protocol.specs.format.Values.{Value}
use Rattle.influxdb_line_protocol.specs.types.SpelledFault.{SpelledFault}
use Rattle.lp_lines.specs.code.Filling.{KeepsFault}
use Rattle.lp_offsets.specs.Offsets.{bytes_at, field_at, field_len, part_room, tag_at, tag_len, text_room}
use Rattle.lp_offsets.specs.Rooms.{Shows, TakesRoom}
use Rattle.lp_offsets.specs.Sinks.{Keeps, Lent, TellsAnswer, TellsEnd, TellsName, TellsPart}
use Rattle.lp_offsets.specs.declared.placed.OffsetPart.{OffsetPart}
use Rattle.lp_offsets.specs.declared.placed.Placed.{Placed}
use Rattle.lp_offsets.specs.declared.placing.Placing.{Placing}
use Rattle.lp_offsets.specs.declared.placing.Told.{Told}

-- what is lent to a sink, and what it counted
abbrev pub lent_of : Placing → Lent Placed OffsetPart
lent_of s = record {
  text = s.line.text.now;
  name = s.name;
  parts = s.parts.now;
  room = s.room.now;
  used = s.used;
  tags = s.tags;
  fields = s.fields;
}

-- the measurement that a place shows
abbrev pub name_placed : List ℕ → List ℕ → ℕ → Placed → List ℕ
name_placed text room at name = bytes_at text room name.copied name.span

-- the tag that a part shows, wherever its copies lie
abbrev pub tag_placed : List ℕ → List ℕ → ℕ → OffsetPart → Option (Pair (List ℕ) (List ℕ))
tag_placed text room at part = tag_at text room part

-- the field that a part shows, wherever its copies lie
abbrev pub field_placed : List ℕ → List ℕ → ℕ → OffsetPart → Option (Pair (List ℕ) (Value (List ℕ)))
field_placed text room at part = field_at text room part

-- how many bytes of the room a measurement takes
abbrev pub name_room : Placed → ℕ
name_room name = text_room name.copied name.span

-- how many bytes the texts have that an event tells
abbrev pub event_len : Event → ℕ
event_len (named name) = length name.bytes
event_len (tagged tag) = tag_len tag
event_len (valued field) = field_len field
event_len (ended series timestamp) = 0
event_len (failed fault) = 0

-- what the sink does with an event
abbrev pub Does : Placing → Event → Placing → Type 0
Does old (named name) new = TellsName name_placed name_room name.bytes (lent_of old) (lent_of new)
Does old (tagged tag) new =
    TellsPart tag_placed part_room (λ s. s.tags) (λ s. s.fields) (Some (logical_tag tag)) (lent_of old) (lent_of new)
Does old (valued field) new =
    TellsPart field_placed part_room (λ s. s.fields) (λ s. s.tags) (Some (logical_field field)) (lent_of old) (lent_of new)
Does old (ended series timestamp) new = (new.timestamp ≡ timestamp) × TellsEnd (lent_of old) (lent_of new)
Does old (failed fault) new = Unit {0}

-- the sink takes an event: it puts it into the same memory, and keeps a fault
pub record Places (old : Placing) (event : Event) (new : Placing) : Type 0 where
  pub parts : new.parts.ghost_name ≡ old.parts.ghost_name
  pub room : new.room.ghost_name ≡ old.room.ghost_name
  pub keeps : Keeps (lent_of old) (lent_of new)
  pub bound : length old.room.now < 2 ^ 32 → new.used ≤ old.used + event_len event
  pub fault : KeepsFault old.fault event new.fault
  pub does : Does old event new

-- what was told of a line
abbrev pub told_of : Placing → Told
told_of s = record {
  tags = s.tags;
  fields = s.fields;
  used = s.used;
  name = s.name;
  timestamp = s.timestamp;
  fault = s.fault;
}

-- a line is shown by each room that has the bytes in use, if all its texts had a place: after so many bytes that were in use before
pub record ShowsRead (read : format.Line) (text : List ℕ) (parts : List OffsetPart) (room : List ℕ) (used : ℕ) (told : Told) : Type 0 where
  pub measurement : Shows (λ r. bytes_at text r told.name.copied told.name.span) room told.used read.measurement.bytes
  pub tags : Shows (λ r. map (tag_at text r) (take told.tags parts)) room told.used
      (map (λ tag. Some (logical_tag tag)) (some_tags read.tags))
  pub fields : Shows (λ r. map (field_at text r) (take told.fields (drop told.tags parts))) room told.used
      (map (λ field. Some (logical_field field)) read.fields)
  pub timestamp : told.timestamp ≡ read.timestamp
  pub takes : TakesRoom room used told.used
      (text_room told.name.copied told.name.span + sum_by part_room (take (told.tags + told.fields) parts))

-- a line was told: its parts are counted; and it is shown, if there are places for them
pub record ToldRead (read : format.Line) (text : List ℕ) (parts : List OffsetPart) (room : List ℕ) (used : ℕ) (told : Told) : Type 0 where
  pub tags : told.tags ≡ length (some_tags read.tags)
  pub fields : told.fields ≡ length read.fields
  pub shows : told.tags + told.fields ≤ length parts → ShowsRead read text parts room used told

-- what the format answers for a line was told: the line, or the fault that is kept
abbrev pub ToldAnswer : Result format.Line Fault → Option SpelledFault → List ℕ → List OffsetPart → List ℕ → ℕ → Told → Type 0
ToldAnswer answer kept text parts room used told = TellsAnswer answer kept (λ read. ToldRead read text parts room used told)
