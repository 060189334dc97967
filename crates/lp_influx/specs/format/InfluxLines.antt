-- Lines, as InfluxDB 1.x reads them.
use Rattle.std.specs.Prelude.{ℕ, ℤ, pos, negsuc, ◌-◌, ◌==◌, ◌||◌, List, [], ◌∷◌, length, take, drop, map, slice_index, Option, Some, None, if◌then◌else◌}
use Rattle.std.specs.{List.list_any, Str.Parse.signed_digits_value}
use Rattle.lp_format.specs.format.{Pair, Point, Reading, Text, Value, ◌>>=◌, byte, hash, integer_len, is_one_of, logical_value, miss, nul, reads, space, spaces, tab}
use Rattle.lp_format.specs.format.{without_front}
use Rattle.lp_portable.specs.format.Portable.{begins_with, has_repeats, is_hundreds, is_long_after, is_outside}
use Rattle.lp_influx.specs.format.InfluxNames.{influx_name, influx_names, influx_tags, measurement_at}
use Rattle.lp_influx.specs.format.InfluxFields.{influx_fields}

-- A text without the spaces, tabs and bytes 0 at its start.
abbrev pub without_gap : List ℕ → List ℕ
without_gap text = without_front (is_one_of (space ∷ tab ∷ nul ∷ [])) text

-- The last byte of the gap before this rest of a text.
abbrev pub gap_before : List ℕ → List ℕ → ℕ
gap_before text rest = slice_index text (length text - length rest - 1)

-- Reads a number in the range of times, which only spaces may follow.
abbrev pub stamp_at : List ℕ → Reading (Option ℤ)
stamp_at text =
    let number = signed_digits_value 10 (take (integer_len text) text) in
    let rest = drop (integer_len text) text in
    if integer_len text == 0 || is_outside (negsuc 9223372036854775805) (pos 9223372036854775806) (Some number) then miss
    else if length rest == spaces rest then reads (Some number) [] else miss

-- Reads the time after the fields, or no time if only a gap is left.
abbrev pub influx_time : List ℕ → Reading (Option ℤ)
influx_time text = if length (without_gap text) == 0 then reads None [] else stamp_at (without_gap text)

-- The parts of a line as they are spelled, except for its values.
pub record Parts : Type 0 where
  pub measurement : List ℕ
  pub tags : List (Pair (List ℕ) (List ℕ))
  pub series_len : ℕ
  pub fields : List (Pair (List ℕ) (Value Text))
  pub timestamp : Option ℤ

-- Reads the parts of a line that has no gap at its start.
abbrev pub parts_at : List ℕ → Reading Parts
parts_at line = do
  m ← measurement_at line
  tags ← influx_tags m.rest
  gap ← byte space tags.rest
  fields ← influx_fields (gap_before tags.rest (without_gap tags.rest)) (without_gap tags.rest)
  time ← influx_time fields.rest
  reads (record {
    measurement = m.value;
    tags = tags.value;
    series_len = length line - length tags.rest;
    fields = fields.value;
    timestamp = time.value;
  }) time.rest

-- A field with its logical texts.
abbrev pub influx_logical : Pair (List ℕ) (Value Text) → Pair (List ℕ) (Value (List ℕ))
influx_logical f = record { key = influx_name f.key; value = logical_value f.value }

-- The point of the parts of a line. There is none if two tags have the same key, if a key is too long, or if the number of tags makes the
-- server panic.
abbrev pub point_of_parts : Parts → Option Point
point_of_parts p =
    if has_repeats (map (λ t. t.key) p.tags) || is_hundreds (length p.tags) || list_any (λ f. is_long_after p.series_len f.key) p.fields then None
    else Some (record {
      measurement = influx_name p.measurement;
      tags = map influx_names p.tags;
      fields = map influx_logical p.fields;
      timestamp = p.timestamp;
    })

-- The point that InfluxDB 1.x reads from one line, without the newline that ends the line. Its tags are in the order of the line. There is
-- none for a comment, for a blank line and for a line that InfluxDB rejects.
unfoldable pub influx_line : List ℕ → Option Point
influx_line text = if begins_with hash (without_gap text) then None else point (parts_at (without_gap text))
  where
    point : Reading Parts → Option Point
    point (reads p rest) = point_of_parts p
    point other = None
