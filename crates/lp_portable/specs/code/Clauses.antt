-- The clauses, the limits and the servers of the code, as values of the definitions.
use Rattle.std.specs.Prelude.{◌≡◌, ℕ, ◌&&◌, Bool, List, [], ◌∷◌, Option, Some, None, if◌then◌else◌}
use Rattle.lp_format.specs.format.{Line, trimmed}
use Rattle.lp_portable.specs.format as format
use Rattle.lp_portable.specs.format.Portable as portable
use Rattle.lp_portable.specs.format.{IsOneLine, IsSpelled, Spelling, breaks}
use Rattle.lp_portable.specs.declared.{broken.Broken.Broken, broken.Clause.Clause, broken.TheConstants.CLAUSES, limits.Limits.Limits, limits.Servers.Servers}
use Rattle.lp_portable.specs.declared.limits.Servers.TheVariants.{Influx1, Victoria, All}

-- The servers of the definitions that a value of the code names.
abbrev pub servers_of : Servers → format.Servers
servers_of Influx1 = portable.influx1
servers_of Victoria = portable.victoria
servers_of All = portable.all

-- The limits of the definitions that a value of the code names.
abbrev pub limits_of : Limits → format.Limits
limits_of l = record { line = l.line; tags = l.tags; earliest = l.earliest; latest = l.latest }

-- The clause of the definitions that a value of the code names.
abbrev pub clause_of : Clause → format.Clause
clause_of Clause.LeadingBlank = portable.leading_blank
clause_of Clause.TrailingSpace = portable.trailing_space
clause_of Clause.Newline = portable.newline
clause_of Clause.MeasurementEquals = portable.measurement_equals
clause_of Clause.MeasurementEscape = portable.measurement_escape
clause_of Clause.TagEscape = portable.tag_escape
clause_of Clause.TagKeyComma = portable.tag_key_comma
clause_of Clause.TagValueEquals = portable.tag_value_equals
clause_of Clause.RepeatedTag = portable.repeated_tag
clause_of Clause.FieldKeyEscape = portable.field_key_escape
clause_of Clause.FieldKeyComma = portable.field_key_comma
clause_of Clause.FieldKeyQuote = portable.field_key_quote
clause_of Clause.LongSeries = portable.long_series
clause_of Clause.Unsigned = portable.unsigned
clause_of Clause.InfiniteFloat = portable.infinite_float
clause_of Clause.RoundedFloat = portable.rounded_float
clause_of Clause.LeadingNul = portable.leading_nul
clause_of Clause.TimeOutOfRange = portable.time_out_of_range
clause_of Clause.TagCount = portable.tag_count
clause_of Clause.TimeName = portable.time_name
clause_of Clause.SystemName = portable.system_name
clause_of Clause.RepeatedField = portable.repeated_field
clause_of Clause.KeySeparator = portable.key_separator
clause_of Clause.ControlByte = portable.control_byte
clause_of Clause.NameLabel = portable.name_label
clause_of Clause.LongTagKey = portable.long_tag_key
clause_of Clause.LongTagValue = portable.long_tag_value
clause_of Clause.LongMetricName = portable.long_metric_name
clause_of Clause.LongLabels = portable.long_labels
clause_of Clause.TooManyTags = portable.too_many_tags
clause_of Clause.LongLine = portable.long_line
clause_of Clause.TimeNotKept = portable.time_not_kept

-- Whether a clause is broken.
abbrev pub is_broken : Broken → Clause → Bool
is_broken broken Clause.LeadingBlank = broken.leading_blank
is_broken broken Clause.TrailingSpace = broken.trailing_space
is_broken broken Clause.Newline = broken.newline
is_broken broken Clause.MeasurementEquals = broken.measurement_equals
is_broken broken Clause.MeasurementEscape = broken.measurement_escape
is_broken broken Clause.TagEscape = broken.tag_escape
is_broken broken Clause.TagKeyComma = broken.tag_key_comma
is_broken broken Clause.TagValueEquals = broken.tag_value_equals
is_broken broken Clause.RepeatedTag = broken.repeated_tag
is_broken broken Clause.FieldKeyEscape = broken.field_key_escape
is_broken broken Clause.FieldKeyComma = broken.field_key_comma
is_broken broken Clause.FieldKeyQuote = broken.field_key_quote
is_broken broken Clause.LongSeries = broken.long_series
is_broken broken Clause.Unsigned = broken.unsigned
is_broken broken Clause.InfiniteFloat = broken.infinite_float
is_broken broken Clause.RoundedFloat = broken.rounded_float
is_broken broken Clause.LeadingNul = broken.leading_nul
is_broken broken Clause.TimeOutOfRange = broken.time_out_of_range
is_broken broken Clause.TagCount = broken.tag_count
is_broken broken Clause.TimeName = broken.time_name
is_broken broken Clause.SystemName = broken.system_name
is_broken broken Clause.RepeatedField = broken.repeated_field
is_broken broken Clause.KeySeparator = broken.key_separator
is_broken broken Clause.ControlByte = broken.control_byte
is_broken broken Clause.NameLabel = broken.name_label
is_broken broken Clause.LongTagKey = broken.long_tag_key
is_broken broken Clause.LongTagValue = broken.long_tag_value
is_broken broken Clause.LongMetricName = broken.long_metric_name
is_broken broken Clause.LongLabels = broken.long_labels
is_broken broken Clause.TooManyTags = broken.too_many_tags
is_broken broken Clause.LongLine = broken.long_line
is_broken broken Clause.TimeNotKept = broken.time_not_kept

-- Whether a clause concerns these servers and is broken.
abbrev pub is_broken_for : Servers → Broken → Clause → Bool
is_broken_for to broken clause = format.concerns (servers_of to) (clause_of clause) && is_broken broken clause

-- The first of these clauses that passes a test.
abbrev pub first_of : (Clause → Bool) → List Clause → Option Clause
first_of passes [] = None
first_of passes (clause ∷ clauses) = if passes clause then Some clause else first_of passes clauses

-- The first clause that concerns these servers and is broken.
unfoldable pub first_broken : Servers → Broken → Option Clause
first_broken to broken = first_of (is_broken_for to broken) CLAUSES.now

-- The text is one line that breaks these clauses and no others.
pub record Breaks (limits : Limits) (text : List ℕ) (broken : Broken) : Type 0 where
  pub line : Line
  pub names : Spelling
  pub is_line : IsOneLine text line
  pub are_names : IsSpelled (trimmed text) line names
  pub tells : (clause : Clause) → is_broken broken clause ≡ breaks (limits_of limits) text line names (clause_of clause)
