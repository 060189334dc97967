-- What the offsets of a line and of its parts show: texts of the caller's text and of its room; and how long these are.
use Rattle.std.specs.Prelude.{◌≡◌, ◌≤◌, ◌<◌, ◌-◌, ◌^◌, ◌==◌, ◌&&◌, ◌||◌, ◌+◌, ℕ, Bool, not, length, List, Option, Some, None, take, drop, if◌then◌else◌}
use Rattle.std.specs.Int.{cast_signed, w64}
use Rattle.std.specs.List.{sum_by}
use Rattle.influxdb_line_protocol.specs.format.Lines as format
use Rattle.influxdb_line_protocol.specs.format.Lines.{some_tags}
use Rattle.influxdb_line_protocol.specs.format.Points.{Pair}
use Rattle.influxdb_line_protocol.specs.format.Readings.{Text}
use Rattle.influxdb_line_protocol.specs.format.Values.{Value, integer, unsigned, float, string, boolean}
use Rattle.lp_offsets.specs.Numbers.{kind_number}
use Rattle.lp_offsets.specs.declared.placed.OffsetPart.{OffsetPart}
use Rattle.lp_offsets.specs.declared.placed.Span.{Span}
use Rattle.lp_offsets.specs.declared.enums.Kind.{Kind}

-- a line lies in a text, and ends at this place of it, which 32 bits hold
pub record IsLineIn (text line : List ℕ) (end : ℕ) : Type 0 where
  pub small : end < 2 ^ 32
  pub within : end ≤ length text
  pub begins : length line ≤ end
  pub is : take (length line) (drop (end - length line) text) ≡ line

-- the bytes at a place: of the room, if they were copied, or else of the text
abbrev pub bytes_at : List ℕ → List ℕ → ℕ → Span → List ℕ
bytes_at text room copied span = take span.len (drop span.at (if copied == 0 then text else room))

-- the key that a part shows
abbrev pub key_at : List ℕ → List ℕ → OffsetPart → List ℕ
key_at text room part = bytes_at text room part.key_copied part.key

-- the text that a part shows
abbrev pub text_at : List ℕ → List ℕ → OffsetPart → List ℕ
text_at text room part = bytes_at text room part.text_copied part.text

-- whether the value of a part is a text
abbrev pub has_text : OffsetPart → Bool
has_text part = part.kind == kind_number Kind.Tag || part.kind == kind_number Kind.Float || part.kind == kind_number Kind.String

-- whether a part has no text: its span is empty, at place 0 of the input
abbrev pub is_textless : OffsetPart → Bool
is_textless part = part.text.at == 0 && part.text.len == 0 && part.text_copied == 0

-- whether a part holds a value beside its own. The number of a text must be 0, that of a Boolean 0 or 1, and a number has no text
abbrev pub is_stray : OffsetPart → Bool
is_stray part =
    if has_text part then not (part.number == 0)
    else not (is_textless part) || (part.kind == kind_number Kind.Boolean && not (part.number == 0 || part.number == 1))

-- the tag that a part shows, if it is one
abbrev pub tag_at : List ℕ → List ℕ → OffsetPart → Option (Pair (List ℕ) (List ℕ))
tag_at text room part =
    if is_stray part then None else
    if part.kind == kind_number Kind.Tag
    then Some (record { key = key_at text room part; value = text_at text room part }) else None

-- the value that a part shows, if it is a field
abbrev pub value_at : List ℕ → List ℕ → OffsetPart → Option (Value (List ℕ))
value_at text room part =
    if part.kind == kind_number Kind.Integer then Some (integer (cast_signed w64 part.number)) else
    if part.kind == kind_number Kind.Unsigned then Some (unsigned part.number) else
    if part.kind == kind_number Kind.Float then Some (float (text_at text room part)) else
    if part.kind == kind_number Kind.String then Some (string (text_at text room part)) else
    if part.kind == kind_number Kind.Boolean then Some (boolean (part.number == 1)) else None

-- a field with this key and the value that may be there
abbrev pub with_key : List ℕ → Option (Value (List ℕ)) → Option (Pair (List ℕ) (Value (List ℕ)))
with_key key None = None
with_key key (Some value) = Some (record { key = key; value = value })

-- the field that a part shows, if it is one
abbrev pub field_at : List ℕ → List ℕ → OffsetPart → Option (Pair (List ℕ) (Value (List ℕ)))
field_at text room part = if is_stray part then None else with_key (key_at text room part) (value_at text room part)

-- how many bytes of the room a text takes: its own, if it was copied. A text whose number `copied` is neither 0 nor 1 would take more than
-- any room has, so no row shows it
abbrev pub text_room : ℕ → Span → ℕ
text_room copied span = if copied == 0 then 0 else if copied == 1 then span.len else 2 ^ 64

-- how many bytes of the room the texts of a part take
abbrev pub part_room : OffsetPart → ℕ
part_room part = text_room part.key_copied part.key + text_room part.text_copied part.text

-- how many bytes the text of a value has, if it is one
abbrev pub value_len : Value Text → ℕ
value_len (integer z) = 0
value_len (unsigned n) = 0
value_len (float literal) = length literal
value_len (string text) = length text.bytes
value_len (boolean b) = 0

-- how many bytes the texts of a tag have
abbrev pub tag_len : Pair Text Text → ℕ
tag_len tag = length tag.key.bytes + length tag.value.bytes

-- how many bytes the texts of a field have
abbrev pub field_len : Pair Text (Value Text) → ℕ
field_len field = length field.key.bytes + value_len field.value

-- how many bytes the texts of a line have
abbrev pub texts_len : format.Line → ℕ
texts_len read = length read.measurement.bytes + (sum_by tag_len (some_tags read.tags) + sum_by field_len read.fields)
