-- The clauses that a line breaks, computed from the parts that the code has of the line.
use Rattle.std.specs.Prelude.{◌≡◌, ℕ, pos, negsuc, ◌+◌, ◌-◌, ◌==◌, ◌||◌, not, List, [], ◌∷◌, length, map, codes, nat_lt, slice_index, slice_index_or}
use Rattle.std.specs.{Prelude.bytes_eq, List.list_any}
use Rattle.lp_format.specs.format.{is_one_of, newline, quote, space, tab}
use Rattle.lp_values.specs.{code.Texts.text_of}
use Rattle.lp_lines.specs.{declared.parsed.ParsedLine.ParsedLine, code.Lookups.some_items, code.Parsed.field_of, code.Parsed.tag_of}
use Rattle.lp_portable.specs.declared.{broken.Broken.Broken, limits.Limits.Limits}
use Rattle.lp_portable.specs.format.Portable.{begins_with_nul, has_control, is_rounded}
use Rattle.lp_portable.specs.format.Portable.{holds_text, is_finite, is_hundreds, is_outside, is_system_key}
use Rattle.lp_portable.specs.format.Portable.{is_system_measurement, is_unsigned}
use Rattle.lp_portable.specs.declared.{names.NameBreaks.NameBreaks, portable.Parts.Parts, portable.Repeats.Repeats}

-- The parts are the parts of the line that was read.
pub record ArePartsOf (read : ParsedLine) (parts : Parts) : Type 0 where
  pub series : parts.series.now ≡ read.series.raw_input.now
  pub measurement : parts.measurement.now ≡ text_of read.series.measurement
  pub tags : parts.tags.now ≡ some_items read.series.tag_set
  pub fields : parts.fields.now ≡ read.field_set.items
  pub timestamp : parts.timestamp ≡ read.timestamp

-- The clauses that a line breaks, by the parts that the code has of the line.
abbrev pub broken_by_code : Limits → List ℕ → Parts → Repeats → NameBreaks → Broken
broken_by_code limits text parts repeats names =
    record {
      leading_blank = is_one_of (space ∷ tab ∷ []) (slice_index_or text 0 0);
      trailing_space = slice_index text (length text - 1) == space;
      newline = is_one_of text newline;
      measurement_equals = names.equals;
      measurement_escape = names.escape;
      tag_escape = names.tags.escape;
      tag_key_comma = names.tags.comma;
      tag_value_equals = names.tags.sign;
      repeated_tag = repeats.tag;
      field_key_escape = names.keys.escape;
      field_key_comma = names.keys.comma;
      field_key_quote = list_any (λ f. is_one_of (field_of f).key.bytes quote) parts.fields.now;
      long_series = names.keys.long;
      unsigned = list_any (λ f. is_unsigned (field_of f).value) parts.fields.now;
      infinite_float = list_any (λ f. not (is_finite (field_of f).value)) parts.fields.now;
      rounded_float = list_any (λ f. is_rounded (field_of f).value) parts.fields.now;
      leading_nul = begins_with_nul (map field_of parts.fields.now);
      time_out_of_range = is_outside (negsuc 9223372036854775805) (pos 9223372036854775806) parts.timestamp;
      tag_count = is_hundreds (length parts.tags.now);
      time_name = list_any (λ t. bytes_eq (tag_of t).key.bytes (codes "time")) parts.tags.now || list_any (λ f. bytes_eq (field_of f).key.bytes (codes "time")) parts.fields.now;
      system_name = is_system_measurement parts.measurement.now || list_any (λ f. is_system_key (field_of f).key.bytes) parts.fields.now;
      repeated_field = repeats.field;
      key_separator = holds_text (codes "#!~") parts.series.now;
      control_byte = has_control parts.measurement.now || list_any (λ f. has_control (field_of f).key.bytes) parts.fields.now;
      name_label = list_any (λ t. bytes_eq (tag_of t).key.bytes (codes "__name__")) parts.tags.now;
      long_tag_key = list_any (λ t. nat_lt 256 (length (tag_of t).key.bytes)) parts.tags.now;
      long_tag_value = list_any (λ t. nat_lt 16384 (length (tag_of t).value.bytes)) parts.tags.now;
      long_metric_name = list_any (λ f. nat_lt 16384 (length parts.measurement.now + 1 + length (field_of f).key.bytes)) parts.fields.now;
      long_labels = list_any (λ f. nat_lt 32000 (length parts.series.now + 1 + length (field_of f).key.bytes)) parts.fields.now;
      too_many_tags = nat_lt limits.tags (length parts.tags.now);
      long_line = nat_lt limits.line (length text);
      time_not_kept = is_outside limits.earliest limits.latest parts.timestamp;
    }
