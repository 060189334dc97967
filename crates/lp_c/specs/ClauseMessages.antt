-- The messages of the clauses of what is portable, of which callers in C hand in the bits.
use Rattle.std.specs.Prelude.{◌≢◌, ℕ, ◌+◌, ◌^◌, ◌==◌, List, [], codes, if◌then◌else◌}
use Rattle.lp_portable.specs.declared.broken.Clause.{Clause}
use Rattle.lp_portable.specs.code.Bits.{place}

-- the bit of verdicts that says that there is no line
abbrev pub no_line_bit : ℕ
no_line_bit = 1

-- the bit of a clause in verdicts
abbrev pub clause_bit : Clause → ℕ
clause_bit clause = 2 ^ (place clause + 1)

-- the message of the clause with this bit: a clause is named by what breaks it; any other number has the empty message
abbrev pub clause_message : ℕ → List ℕ
clause_message bit =
    if bit == no_line_bit then codes "what is there is not one line for the strict reader"
    else if bit == clause_bit Clause.LeadingBlank then codes "a space or a tab comes before the line"
    else if bit == clause_bit Clause.TrailingSpace then codes "a space ends the line"
    else if bit == clause_bit Clause.Newline then codes "the line holds a newline: in a string, or escaped"
    else if bit == clause_bit Clause.MeasurementEquals then codes "an equals sign is escaped in the measurement"
    else if bit == clause_bit Clause.MeasurementEscape then codes "a backslash or a quote is escaped in the measurement"
    else if bit == clause_bit Clause.TagEscape then codes "a backslash is escaped in a tag key or a tag value"
    else if bit == clause_bit Clause.TagKeyComma then codes "a comma is bare in a tag key"
    else if bit == clause_bit Clause.TagValueEquals then codes "an equals sign is bare in a tag value"
    else if bit == clause_bit Clause.RepeatedTag then codes "two tags have one key"
    else if bit == clause_bit Clause.FieldKeyEscape then codes "a backslash or a quote is escaped in a field key"
    else if bit == clause_bit Clause.FieldKeyComma then codes "a comma is bare in a field key"
    else if bit == clause_bit Clause.FieldKeyQuote then codes "a field key holds a quote"
    else if bit == clause_bit Clause.LongSeries then codes "the series, four bytes and a field key are longer than 65,535 bytes"
    else if bit == clause_bit Clause.Unsigned then codes "a value is an unsigned integer"
    else if bit == clause_bit Clause.InfiniteFloat then codes "a float is too large for a finite number"
    else if bit == clause_bit Clause.RoundedFloat then codes "a float has an exponent, or takes over 310 bytes"
    else if bit == clause_bit Clause.LeadingNul then codes "the first field key begins with a byte 0"
    else if bit == clause_bit Clause.TimeOutOfRange then codes "the timestamp is the greatest of 64 bits, or one of the two least"
    else if bit == clause_bit Clause.TagCount then codes "the tags are 100, 200, 400, 800 and so on"
    else if bit == clause_bit Clause.TimeName then codes "a tag key or a field key is `time`"
    else if bit == clause_bit Clause.SystemName then codes "the measurement or a field key is a name of the server's own"
    else if bit == clause_bit Clause.RepeatedField then codes "two fields have one key"
    else if bit == clause_bit Clause.KeySeparator then codes "the series holds `#!~`"
    else if bit == clause_bit Clause.ControlByte then codes "the measurement or a field key holds a byte 0 or a carriage return"
    else if bit == clause_bit Clause.NameLabel then codes "a tag key is `__name__`"
    else if bit == clause_bit Clause.LongTagKey then codes "a tag key is longer than 256 bytes"
    else if bit == clause_bit Clause.LongTagValue then codes "a tag value is longer than 16,384 bytes"
    else if bit == clause_bit Clause.LongMetricName then codes "the measurement, a byte and a field key are longer than 16,384 bytes"
    else if bit == clause_bit Clause.LongLabels then codes "the series, a byte and a field key are longer than 32,000 bytes"
    else if bit == clause_bit Clause.TooManyTags then codes "there are more tags than the limit"
    else if bit == clause_bit Clause.LongLine then codes "the line is longer than the limit"
    else if bit == clause_bit Clause.TimeNotKept then codes "the timestamp is before or after what is kept"
    else []

-- a number is the bit of a clause, or the bit that says that there is no line: it has a message
abbrev pub IsClauseBit : ℕ → Type 0
IsClauseBit bit = clause_message bit ≢ []
