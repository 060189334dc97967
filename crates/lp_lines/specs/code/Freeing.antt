-- The memory of a line that was read into, after it is freed.
use Rattle.std.specs.Prelude.{◌≡◌, ◌≤◌, [], true}
use Rattle.lp_lines.specs.{declared.parsed.ParsedLine.ParsedLine, code.Lookups.room_of, code.Lookups.some_items}
use Rattle.lp_format.specs.code.Light.{inline_fields, inline_tags}
use Rattle.lp_values.specs.code.Texts.{is_single_slice}

-- the line holds no memory: its measurement is no copy, and its sets are empty and have no more room than new sets
pub record HoldsNoMemory (line : ParsedLine) : Type 0 where
  pub measurement : is_single_slice line.series.measurement ≡ true
  pub tags : some_items line.series.tag_set ≡ []
  pub fields : line.field_set.items ≡ []
  pub tag_room : room_of line.series.tag_set ≤ inline_tags
  pub field_room : line.field_set.capacity ≤ inline_fields
