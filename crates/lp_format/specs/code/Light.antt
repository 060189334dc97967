-- Light lines: the reader answers them without memory.
use Rattle.std.specs.Prelude.{ℕ, zero, suc, ◌&&◌, Bool, true, false, not, List, length, drop, Result, Ok, Err, nat_le}
use Rattle.std.specs.List.{list_all}
use Rattle.lp_format.specs.format.{Dialect, backslash, comma, space, is_one_of, Text, Fault, integer_value_invalid, uinteger_value_invalid}
use Rattle.lp_format.specs.format.{timestamp_value_invalid, cannot_parse_entire_line, Read, Reading, reads, a_measurement, name, Value}
use Rattle.lp_format.specs.format.{string, Pair, Line, some_tags, byte, tag, field, after_comma, tag_set, spaces, answer}

-- whether a fault carries no text
abbrev pub carries_no_text : Fault → Bool
carries_no_text (integer_value_invalid side text) = false
carries_no_text (uinteger_value_invalid side text) = false
carries_no_text (timestamp_value_invalid side text) = false
carries_no_text (cannot_parse_entire_line text) = false
carries_no_text other = true

-- whether a value is not a string that had to be copied
abbrev pub is_single_value : Value Text → Bool
is_single_value (string t) = t.is_single
is_single_value other = true

-- whether neither the key nor the value of a tag had to be copied
abbrev pub is_single_tag : Pair Text Text → Bool
is_single_tag t = t.key.is_single && t.value.is_single

-- whether neither the key nor the string value of a field had to be copied
abbrev pub is_single_field : Pair Text (Value Text) → Bool
is_single_field f = f.key.is_single && is_single_value f.value

-- whether every name and string of a line is a part of the input or a fixed text
abbrev pub is_single_line : Line → Bool
is_single_line l = l.measurement.is_single && list_all is_single_tag (some_tags l.tags) && list_all is_single_field l.fields

-- whether an answer needs no memory for names, strings and faults: every name and string is a part of the input or a
-- fixed text, or the line holds no backslash and the fault carries no text
abbrev pub is_light_answer : List ℕ → Result Line Fault → Bool
is_light_answer line (Ok l) = is_single_line l
is_light_answer line (Err fault) = not (is_one_of line backslash) && carries_no_text fault

-- a count of the rest after a reading, or 0 if the reading misses or is fatal
abbrev pub count_after : {A : Type 0} → Reading A → (List ℕ → ℕ) → ℕ
count_after (reads x rest) count = count rest
count_after other count = 0

-- how many elements `one` reads, one after another, at the start of the line, at most `n`
abbrev pub many_count : {A : Type 0} → (List ℕ → Reading A) → ℕ → List ℕ → ℕ
many_count one zero line = 0
many_count one (suc n) line = count_after (one line) (λ rest. suc (many_count one n rest))

-- how many elements `one` reads at the start of the line, joined by commas, whatever follows them, also if the next element is fatal
abbrev pub read_count : {A : Type 0} → (List ℕ → Reading A) → List ℕ → ℕ
read_count one line = count_after (one line) (λ rest. suc (many_count (after_comma one) (length rest) rest))

-- how many tags are read after the measurement and a comma
unfoldable pub tags_in : List ℕ → ℕ
tags_in line = count_after (name a_measurement line) (λ rest. count_after (byte comma rest) (λ after. read_count tag after))

-- a count of the rest after a part, or 0 if the part is at fault
abbrev pub count_then : {A : Type 0} → Result (Read A) Fault → (List ℕ → ℕ) → ℕ
count_then (Ok r) count = count r.rest
count_then (Err fault) count = 0

-- how many fields are read after the measurement, the tags and the spaces
unfoldable pub fields_in : List ℕ → ℕ
fields_in line =
    count_after (name a_measurement line) (λ rest.
    count_then (tag_set rest) (λ after.
    count_after (byte space after) (λ some. read_count field (drop (spaces after) after))))

-- whether a trimmed text is answered without memory by a reader with room for this many tags and fields: no more of them are read, and the
-- names, strings and fault of the answer need no memory
unfoldable pub is_light_in : ℕ → ℕ → Dialect → List ℕ → Bool
is_light_in tags fields dialect line =
    nat_le (tags_in line) tags && nat_le (fields_in line) fields && is_light_answer line (answer dialect line)

-- how many tags a line can hold without memory
abbrev pub inline_tags : ℕ
inline_tags = 8

-- how many fields a line can hold without memory
abbrev pub inline_fields : ℕ
inline_fields = 4

-- whether a trimmed text is light, that is, answered without memory: at most `inline_tags` tags, which are 8, and `inline_fields` fields,
-- which are 4, are read, and the names, strings and fault of the answer need no memory
abbrev pub is_light : Dialect → List ℕ → Bool
is_light dialect line = is_light_in inline_tags inline_fields dialect line
