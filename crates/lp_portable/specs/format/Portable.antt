-- The lines that InfluxDB 1.x and VictoriaMetrics read as the strict reader does, from measurements of these servers.
use Rattle.std.specs.Prelude.{◌≡◌, ℕ, ℤ, pos, negsuc, ◌+◌, ◌-◌, ◌==◌, ◌||◌, Bool, true, false, not, List, [], ◌∷◌, length, map, codes, nat_lt}
use Rattle.std.specs.Prelude.{int_lt, slice_index, slice_index_or, bytes_eq, Option, Some, None, Ok}
use Rattle.std.specs.{Float.Float, Float.Parse.parse_float, Float.binary64, Float.float_is_finite, List.list_any, List.starts_with}
use Rattle.lp_format.specs.format.{Fault, IsCutPiece, Line, Pair, Strict, Text, Value, answers_of_piece, boolean, float, integer, is_one_of}
use Rattle.lp_format.specs.format.{backslash, comma, equals, nul, quote, some_tags, space, string, tab, trimmed}
use Rattle.lp_format.specs.format as format
use Rattle.lp_portable.specs.format.Spellings.{IsSpelled, Spelling, holds}

-- The servers that must read a line as the strict reader does: InfluxDB 1.x, VictoriaMetrics, or both.
pub data Servers : Type 0 where
  influx1 victoria all : Servers

-- The limits that options of a server change: the most bytes of a line, the most tags of a line, and the first and the last timestamp that
-- are kept.
pub record Limits : Type 0 where
  pub line : ℕ
  pub tags : ℕ
  pub earliest : ℤ
  pub latest : ℤ

-- The limits of servers with default options.
abbrev pub default_limits : Limits
default_limits = record { line = 262144; tags = 29; earliest = pos 1000000; latest = pos 9223372036854775807 }

-- Whether a tag, as it is spelled, holds an escaped backslash.
abbrev pub has_escape : Pair (List ℕ) (List ℕ) → Bool
has_escape t = holds (backslash ∷ []) [] t.key || holds (backslash ∷ []) [] t.value

-- Whether a name, as it is spelled, holds a bare comma.
abbrev pub has_bare_comma : List ℕ → Bool
has_bare_comma name = holds [] (comma ∷ []) name

-- Whether the key of a tag, as it is spelled, holds a bare comma.
abbrev pub has_comma : Pair (List ℕ) (List ℕ) → Bool
has_comma t = has_bare_comma t.key

-- Whether a name, as it is spelled, holds an escaped backslash or an escaped quote.
abbrev pub has_marked_escape : List ℕ → Bool
has_marked_escape name = holds (backslash ∷ quote ∷ []) [] name

-- Whether a field key is too long after a series of this length.
abbrev pub is_long_after : ℕ → List ℕ → Bool
is_long_after series_len key = nat_lt 65535 (series_len + 4 + length key)

-- Whether the value of a tag, as it is spelled, holds a bare equals sign.
abbrev pub has_sign : Pair (List ℕ) (List ℕ) → Bool
has_sign t = holds [] (equals ∷ []) t.value

-- Whether two of these keys are the same.
abbrev pub has_repeats : List (List ℕ) → Bool
has_repeats [] = false
has_repeats (k ∷ keys) = list_any (bytes_eq k) keys || has_repeats keys

-- Whether this number of tags makes InfluxDB panic: 100 times a power of two, up to the most tags that a series can have.
abbrev pub is_hundreds : ℕ → Bool
is_hundreds count = is_one_of (100 ∷ 200 ∷ 400 ∷ 800 ∷ 1600 ∷ 3200 ∷ 6400 ∷ 12800 ∷ []) count

-- Whether a value is an unsigned integer.
abbrev pub is_unsigned : Value Text → Bool
is_unsigned (format.unsigned n) = true
is_unsigned other = false

-- Whether there is a number and it is finite.
abbrev pub is_finite_number : Option Float → Bool
is_finite_number None = false
is_finite_number (Some x) = float_is_finite x

-- Whether a value is no float, or the number nearest to its literal is finite.
abbrev pub is_finite : Value Text → Bool
is_finite (float literal) = is_finite_number (parse_float binary64 literal)
is_finite other = true

-- Whether a value is a float whose literal has an exponent or takes more than 310 bytes.
abbrev pub is_rounded : Value Text → Bool
is_rounded (float literal) = list_any (is_one_of (codes "eE")) literal || nat_lt 310 (length literal)
is_rounded other = false

-- Whether a text begins with this byte.
abbrev pub begins_with : ℕ → List ℕ → Bool
begins_with b [] = false
begins_with b (c ∷ text) = c == b

-- Whether the key of the first field begins with a byte 0.
abbrev pub begins_with_nul : List (Pair Text (Value Text)) → Bool
begins_with_nul [] = false
begins_with_nul (f ∷ fields) = begins_with nul f.key.bytes

-- Whether there is a timestamp and it is before the first of these times or after the last.
abbrev pub is_outside : ℤ → ℤ → Option ℤ → Bool
is_outside first last None = false
is_outside first last (Some t) = int_lt t first || int_lt last t

-- Whether a text holds the wanted text.
abbrev pub holds_text : List ℕ → List ℕ → Bool
holds_text wanted [] = false
holds_text wanted (b ∷ text) = starts_with (λ a c. a == c) (b ∷ text) wanted || holds_text wanted text

-- Whether a name holds a byte 0 or a carriage return.
abbrev pub has_control : List ℕ → Bool
has_control name = list_any (is_one_of (nul ∷ 13 ∷ [])) name

-- Whether InfluxDB has a measurement of its own with this name.
abbrev pub is_system_measurement : List ℕ → Bool
is_system_measurement name =
    bytes_eq name (codes "_series") || (bytes_eq name (codes "_fieldKeys") || (bytes_eq name (codes "_tagKeys") || (bytes_eq name (codes "_measurements")
    || (bytes_eq name (codes "_name") || (bytes_eq name (codes "_tagKey") || bytes_eq name (codes "_tags"))))))

-- Whether InfluxDB has a field of its own with this key.
abbrev pub is_system_key : List ℕ → Bool
is_system_key key =
    bytes_eq key (codes "_name") || (bytes_eq key (codes "_tagKey") || (bytes_eq key (codes "_tagValue")
    || (bytes_eq key (codes "_fieldKey") || bytes_eq key (codes "_seriesKey"))))

-- Whether a tag or a field has the key `time`.
abbrev pub has_time_key : Line → Bool
has_time_key line =
    list_any (λ t. bytes_eq t.key.bytes (codes "time")) (some_tags line.tags) || list_any (λ f. bytes_eq f.key.bytes (codes "time")) line.fields

-- The clauses of portability, each named by what breaks it, in the order in which they are checked.
pub data Clause : Type 0 where
  leading_blank trailing_space newline measurement_equals measurement_escape tag_escape tag_key_comma tag_value_equals repeated_tag : Clause
  field_key_escape field_key_comma field_key_quote long_series unsigned infinite_float rounded_float leading_nul time_out_of_range tag_count : Clause
  time_name system_name repeated_field key_separator control_byte name_label long_tag_key long_tag_value long_metric_name long_labels : Clause
  too_many_tags long_line time_not_kept : Clause

-- Whether a line breaks a clause, from its text, the line that was read, and the spelling of its names. The comment of each clause says
-- what servers do with a line that breaks it.
abbrev pub breaks : Limits → List ℕ → Line → Spelling → Clause → Bool
-- VictoriaMetrics drops a line after a space, and takes a tab into the measurement
breaks limits text line names leading_blank = is_one_of (space ∷ tab ∷ []) (slice_index_or text 0 0)
-- VictoriaMetrics drops a line with a space at its end
breaks limits text line names trailing_space = slice_index text (length text - 1) == space
-- VictoriaMetrics ends a line at each newline, and reads what follows as lines
breaks limits text line names newline = is_one_of text format.newline
-- both servers remove the backslash before an equals sign
breaks limits text line names measurement_equals = holds (equals ∷ []) [] names.measurement
-- InfluxDB keeps both of two backslashes, and removes a backslash before a quote
breaks limits text line names measurement_escape = has_marked_escape names.measurement
-- InfluxDB keeps both of two backslashes
breaks limits text line names tag_escape = list_any has_escape names.tags
-- both servers end the tag at the comma
breaks limits text line names tag_key_comma = list_any has_comma names.tags
-- InfluxDB rejects the line, or keeps the series in this spelling apart from the series in other spellings, and loses one of them
breaks limits text line names tag_value_equals = list_any has_sign names.tags
-- InfluxDB rejects the line, and VictoriaMetrics keeps only the last value
breaks limits text line names repeated_tag = has_repeats (map (λ t. t.key.bytes) (some_tags line.tags))
-- InfluxDB keeps both of two backslashes, and removes a backslash before a quote
breaks limits text line names field_key_escape = list_any has_marked_escape names.keys
-- InfluxDB rejects the line, and VictoriaMetrics drops the field
breaks limits text line names field_key_comma = list_any has_bare_comma names.keys
-- VictoriaMetrics reads the text after the quote as the text of a string
breaks limits text line names field_key_quote = list_any (λ f. is_one_of f.key.bytes quote) line.fields
-- InfluxDB rejects the line
breaks limits text line names long_series = list_any (is_long_after (length line.series)) names.keys
-- InfluxDB rejects the line
breaks limits text line names unsigned = list_any (λ f. is_unsigned f.value) line.fields
-- InfluxDB rejects the line
breaks limits text line names infinite_float = list_any (λ f. not (is_finite f.value)) line.fields
-- VictoriaMetrics rounds the number in another way; it stores 0 for a number that is nearer to 0 than 308 decimals can tell
breaks limits text line names rounded_float = list_any (λ f. is_rounded f.value) line.fields
-- InfluxDB skips a byte 0 before the first field key
breaks limits text line names leading_nul = begins_with_nul line.fields
-- InfluxDB rejects the line
breaks limits text line names time_out_of_range = is_outside (negsuc 9223372036854775805) (pos 9223372036854775806) line.timestamp
-- InfluxDB panics, and the batch is lost. A series cannot have more tags than the greatest of these numbers, because each tag takes four
-- bytes
breaks limits text line names tag_count = is_hundreds (length (some_tags line.tags))
-- InfluxDB drops the field, or rejects the tag
breaks limits text line names time_name = has_time_key line
-- InfluxDB's queries give other values, or do not find the point
breaks limits text line names system_name = is_system_measurement line.measurement.bytes || list_any (λ f. is_system_key f.key.bytes) line.fields
-- InfluxDB keeps one value, or loses the batch if their types differ, and VictoriaMetrics keeps both
breaks limits text line names repeated_field = has_repeats (map (λ f. f.key.bytes) line.fields)
-- InfluxDB has another series after a restart
breaks limits text line names key_separator = holds_text (codes "#!~") line.series
-- no query of InfluxDB names the measurement or the field
breaks limits text line names control_byte = has_control line.measurement.bytes || list_any (λ f. has_control f.key.bytes) line.fields
-- VictoriaMetrics drops the tag
breaks limits text line names name_label = list_any (λ t. bytes_eq t.key.bytes (codes "__name__")) (some_tags line.tags)
-- VictoriaMetrics cuts the key
breaks limits text line names long_tag_key = list_any (λ t. nat_lt 256 (length t.key.bytes)) (some_tags line.tags)
-- VictoriaMetrics cuts the value
breaks limits text line names long_tag_value = list_any (λ t. nat_lt 16384 (length t.value.bytes)) (some_tags line.tags)
-- VictoriaMetrics cuts the name
breaks limits text line names long_metric_name = list_any (λ f. nat_lt 16384 (length line.measurement.bytes + 1 + length f.key.bytes)) line.fields
-- VictoriaMetrics drops a point whose labels take over 65,510 bytes, where bytes 0, 1 and 2 count twice
breaks limits text line names long_labels = list_any (λ f. nat_lt 32000 (length line.series + 1 + length f.key.bytes)) line.fields
-- VictoriaMetrics drops the tags beyond the limit
breaks limits text line names too_many_tags = nat_lt limits.tags (length (some_tags line.tags))
-- VictoriaMetrics may reject the line and all lines that follow
breaks limits text line names long_line = nat_lt limits.line (length text)
-- VictoriaMetrics stores the point at the time of arrival, or drops it
breaks limits text line names time_not_kept = is_outside limits.earliest limits.latest line.timestamp

-- Whether a clause is about the behavior of InfluxDB 1.x.
abbrev pub is_of_influx : Clause → Bool
is_of_influx leading_blank = false
is_of_influx trailing_space = false
is_of_influx newline = false
is_of_influx field_key_quote = false
is_of_influx rounded_float = false
is_of_influx name_label = false
is_of_influx long_tag_key = false
is_of_influx long_tag_value = false
is_of_influx long_metric_name = false
is_of_influx long_labels = false
is_of_influx too_many_tags = false
is_of_influx long_line = false
is_of_influx time_not_kept = false
is_of_influx other = true

-- Whether a clause is about the behavior of VictoriaMetrics.
abbrev pub is_of_victoria : Clause → Bool
is_of_victoria measurement_escape = false
is_of_victoria tag_escape = false
is_of_victoria tag_value_equals = false
is_of_victoria field_key_escape = false
is_of_victoria long_series = false
is_of_victoria unsigned = false
is_of_victoria infinite_float = false
is_of_victoria leading_nul = false
is_of_victoria time_out_of_range = false
is_of_victoria tag_count = false
is_of_victoria time_name = false
is_of_victoria system_name = false
is_of_victoria key_separator = false
is_of_victoria control_byte = false
is_of_victoria other = true

-- Whether a clause concerns these servers.
abbrev pub concerns : Servers → Clause → Bool
concerns influx1 clause = is_of_influx clause
concerns victoria clause = is_of_victoria clause
concerns all clause = true

-- The text is one line that a newline ends, and the strict rules read this line.
pub record IsOneLine (text : List ℕ) (line : Line) : Type 0 where
  pub piece : IsCutPiece Strict text
  pub read : answers_of_piece Strict text ≡ Ok line ∷ []

-- The text is a portable line: one line that breaks no clause that concerns these servers.
pub record IsPortable (to : Servers) (limits : Limits) (text : List ℕ) : Type 0 where
  pub line : Line
  pub names : Spelling
  pub is_line : IsOneLine text line
  pub are_names : IsSpelled (trimmed text) line names
  pub keeps : (clause : Clause) → concerns to clause ≡ true → breaks limits text line names clause ≡ false
