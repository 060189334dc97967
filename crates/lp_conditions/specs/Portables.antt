-- What is told of a line that is to be portable, and is not.
use Rattle.std.specs.Prelude.{ℕ, ◌++◌, Bool, true, false, List, [], codes, if◌then◌else◌}
use Rattle.std.specs.Str.{is_utf8}
use Rattle.influxdb_line_protocol.specs.types.{Clause.Clause, Servers.Servers, Verdict.Verdict}
use Rattle.influxdb_line_protocol.specs.types.Servers.TheVariants.{Influx1, Victoria, All}
use Rattle.influxdb_line_protocol.specs.types.Verdict.TheVariants as told
use Rattle.influxdb_line_protocol.specs.code.Verdicts.{verdict_of}
use Rattle.lp_conditions.specs.declared.portable.Portable.{Portable}

-- what is told of bytes: what is not UTF-8 is no line
abbrev pub told_of_bytes : Portable → List ℕ → Verdict
told_of_bytes p bytes = if is_utf8 bytes then verdict_of p.to p.limits bytes else told.NoLine

-- whether that is that they are portable
abbrev pub is_shown_portable : Verdict → Bool
is_shown_portable told.Portable = true
is_shown_portable other = false

-- the servers
abbrev pub servers_text : Servers → List ℕ
servers_text Influx1 = codes "InfluxDB 1.x"
servers_text Victoria = codes "VictoriaMetrics"
servers_text All = codes "all servers"

-- what breaks a clause
abbrev pub clause_text : Clause → List ℕ
clause_text Clause.LeadingBlank = codes "a blank before the line"
clause_text Clause.TrailingSpace = codes "a space at its end"
clause_text Clause.Newline = codes "a newline in the line"
clause_text Clause.MeasurementEquals = codes "an escaped equals sign in the measurement"
clause_text Clause.MeasurementEscape = codes "an escaped backslash or quote in the measurement"
clause_text Clause.TagEscape = codes "an escaped backslash in a tag"
clause_text Clause.TagKeyComma = codes "a bare comma in a tag key"
clause_text Clause.TagValueEquals = codes "a bare equals sign in a tag value"
clause_text Clause.RepeatedTag = codes "two tags of one key"
clause_text Clause.FieldKeyEscape = codes "an escaped backslash or quote in a field key"
clause_text Clause.FieldKeyComma = codes "a bare comma in a field key"
clause_text Clause.FieldKeyQuote = codes "a quote in a field key"
clause_text Clause.LongSeries = codes "a series and a field key of more than 65,531 bytes"
clause_text Clause.Unsigned = codes "an unsigned integer"
clause_text Clause.InfiniteFloat = codes "a float out of range"
clause_text Clause.RoundedFloat = codes "a float with an exponent, or of more than 310 bytes"
clause_text Clause.LeadingNul = codes "a byte 0 before the first field key"
clause_text Clause.TimeOutOfRange = codes "a timestamp out of range"
clause_text Clause.TagCount = codes "100 tags, or that times a power of two"
clause_text Clause.TimeName = codes "a key 'time'"
clause_text Clause.SystemName = codes "a name of the server's own"
clause_text Clause.RepeatedField = codes "two fields of one key"
clause_text Clause.KeySeparator = codes "'#!~' in the series"
clause_text Clause.ControlByte = codes "a byte 0 or a carriage return in a name"
clause_text Clause.NameLabel = codes "a tag key '__name__'"
clause_text Clause.LongTagKey = codes "a tag key of more than 256 bytes"
clause_text Clause.LongTagValue = codes "a tag value of more than 16,384 bytes"
clause_text Clause.LongMetricName = codes "a measurement and a field key of more than 16,383 bytes"
clause_text Clause.LongLabels = codes "a series and a field key of more than 31,999 bytes"
clause_text Clause.TooManyTags = codes "too many tags"
clause_text Clause.LongLine = codes "too long a line"
clause_text Clause.TimeNotKept = codes "a timestamp that is not kept"

-- what is not portable of a text of which this is told
abbrev pub told_text : Verdict → List ℕ
told_text told.Portable = []
told_text (told.Breaks clause) = clause_text clause
told_text told.NoLine = codes "it is not one line"

-- what is wrong with a line that is not portable to servers
abbrev pub not_portable_text : Servers → Verdict → List ℕ
not_portable_text to told = codes "not portable to " ++ servers_text to ++ codes ": " ++ told_text told
