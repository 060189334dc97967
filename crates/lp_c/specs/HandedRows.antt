-- What rows and parts by offsets hold, as the definitions of the library have it.
use Rattle.std.specs.Prelude.{◌≡◌, ◌+◌, ◌<◌, ◌≤◌, ◌==◌, ℕ, false, List, length, take, drop, map, Option, Some, None, if◌then◌else◌, IsUtf8}
use Rattle.std.specs.List.{AllByRecursion}
use Rattle.influxdb_line_protocol.specs.format.Points.{Pair, Point}
use Rattle.influxdb_line_protocol.specs.format.Values.{IsFloat, Value, boolean}
use Rattle.lp_offsets.specs.Numbers.{kind_number}
use Rattle.lp_offsets.specs.OffsetBlocks.{timestamp_in}
use Rattle.lp_offsets.specs.Offsets.{bytes_at, key_at, text_at, value_at}
use Rattle.lp_offsets.specs.declared.offsets.OffsetRow.{OffsetRow}
use Rattle.lp_offsets.specs.declared.placed.OffsetPart.{OffsetPart}
use Rattle.lp_offsets.specs.declared.placed.Span.{Span}
use Rattle.lp_offsets.specs.declared.enums.Kind.TheVariants as kind

-- a text lies at this place: of the room, if it was copied, or else of the text
pub record IsTextAt (text room : List ℕ) (copied : ℕ) (span : Span) : Type 0 where
  pub fits : span.at + span.len ≤ length (if copied == 0 then text else room)
  pub utf8 : IsUtf8 (bytes_at text room copied span)

-- the tag of a part
abbrev pub tag_there : List ℕ → List ℕ → OffsetPart → Pair (List ℕ) (List ℕ)
tag_there text room part = record { key = key_at text room part; value = text_at text room part }

-- a value, if there is one
abbrev pub some_value : Option (Value (List ℕ)) → Value (List ℕ)
some_value None = boolean false
some_value (Some value) = value

-- the value of a part that is a field
abbrev pub value_there : List ℕ → List ℕ → OffsetPart → Value (List ℕ)
value_there text room part = some_value (value_at text room part)

-- the field of a part
abbrev pub field_there : List ℕ → List ℕ → OffsetPart → Pair (List ℕ) (Value (List ℕ))
field_there text room part = record { key = key_at text room part; value = value_there text room part }

-- a part is a tag: it says so, and its texts are there
pub record IsTagAt (text room : List ℕ) (part : OffsetPart) : Type 0 where
  pub kind : part.kind ≡ kind_number kind.Tag
  pub key : IsTextAt text room part.key_copied part.key
  pub value : IsTextAt text room part.text_copied part.text

-- a part has the value of a field: of a kind that there is; the literal of a float is there and is a literal, and a string is there
pub record IsValueAt (text room : List ℕ) (part : OffsetPart) : Type 0 where
  pub field : kind_number kind.Integer ≤ part.kind
  pub known : part.kind ≤ kind_number kind.Boolean
  pub spelling : part.kind ≡ kind_number kind.Float → IsTextAt text room part.text_copied part.text
  pub literal : part.kind ≡ kind_number kind.Float → IsFloat (text_at text room part)
  pub string : part.kind ≡ kind_number kind.String → IsTextAt text room part.text_copied part.text

-- a part is a field
pub record IsFieldAt (text room : List ℕ) (part : OffsetPart) : Type 0 where
  pub key : IsTextAt text room part.key_copied part.key
  pub value : IsValueAt text room part

-- the parts of a row that are tags
abbrev pub tags_of : List OffsetPart → OffsetRow → List OffsetPart
tags_of parts row = take row.tags (drop row.parts_at parts)

-- the parts of a row that are fields
abbrev pub fields_of : List OffsetPart → OffsetRow → List OffsetPart
fields_of parts row = take row.fields (drop (row.parts_at + row.tags) parts)

-- a row and its parts hold a line: its texts are there, its tags, and at least one field
pub record IsRowIn (text room : List ℕ) (parts : List OffsetPart) (row : OffsetRow) : Type 0 where
  pub measurement : IsTextAt text room row.measurement_copied row.measurement
  pub fits : row.parts_at + row.tags + row.fields ≤ length parts
  pub tags : AllByRecursion (IsTagAt text room) (tags_of parts row)
  pub fields : AllByRecursion (IsFieldAt text room) (fields_of parts row)
  pub some_field : 0 < row.fields

-- the point of the line that a row and its parts hold
abbrev pub point_there : List ℕ → List ℕ → List OffsetPart → OffsetRow → Point
point_there text room parts row =
    record {
      measurement = bytes_at text room row.measurement_copied row.measurement;
      tags = map (tag_there text room) (tags_of parts row);
      fields = map (field_there text room) (fields_of parts row);
      timestamp = timestamp_in row;
    }
