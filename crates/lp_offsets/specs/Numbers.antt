-- The numbers that callers see, and what they see of a fault.
use Rattle.std.specs.Prelude.{◌≢◌, ◌==◌, ℕ, Bool, true, false, List, [], if◌then◌else◌}
use Rattle.influxdb_line_protocol.specs.format.Dialects as format
use Rattle.influxdb_line_protocol.specs.format.Readings as reading
use Rattle.influxdb_line_protocol.specs.format.Readings.{Fault, above, below, integer_value_invalid, uinteger_value_invalid}
use Rattle.influxdb_line_protocol.specs.format.Readings.{cannot_parse_entire_line, ends_with_backslash, field_set_missing}
use Rattle.influxdb_line_protocol.specs.format.Readings.{measurement_value_invalid, tag_set_malformed, take_while1, timestamp_value_invalid}
use Rattle.lp_offsets.specs.declared.enums.Answer.{Answer}
use Rattle.lp_offsets.specs.declared.enums.Dialect.{Dialect}
use Rattle.lp_offsets.specs.declared.enums.FaultKind.{FaultKind}
use Rattle.lp_offsets.specs.declared.enums.Kind.{Kind}
use Rattle.lp_offsets.specs.declared.enums.Side.{Side}
use Rattle.lp_offsets.specs.declared.enums.Side.TheVariants as side

-- the number of an answer
abbrev pub answer_number : Answer → ℕ
answer_number Answer.End = 0
answer_number Answer.Line = 1
answer_number Answer.Fault = 2
answer_number Answer.MoreParts = 3
answer_number Answer.MoreRoom = 4
answer_number Answer.OutOfMemory = 5
answer_number Answer.NotALine = 6
answer_number Answer.Written = 7
answer_number Answer.NotUtf8 = 8
answer_number Answer.Piece = 9
answer_number Answer.MoreText = 10
answer_number Answer.TooLong = 11
answer_number Answer.NotAdmitted = 12
answer_number Answer.NotADialect = 13

-- whether more parts or more room is needed
abbrev pub is_more : Answer → Bool
is_more Answer.MoreParts = true
is_more Answer.MoreRoom = true
is_more answer = false

-- the number of a dialect
abbrev pub dialect_number : Dialect → ℕ
dialect_number Dialect.Crate = 0
dialect_number Dialect.Strict = 1
dialect_number Dialect.NewlineDelimited = 2

-- no dialect has the number
abbrev pub IsNoDialect : ℕ → Type 0
IsNoDialect number = (dialect : Dialect) → number ≢ dialect_number dialect

-- the dialect that a number names; one that is of none names that of the Rust crate
abbrev pub dialect_of : ℕ → format.Dialect
dialect_of number =
    if number == dialect_number Dialect.Strict then format.Strict
    else if number == dialect_number Dialect.NewlineDelimited then format.NewlineDelimited else format.Crate

-- the number of what a part is
abbrev pub kind_number : Kind → ℕ
kind_number Kind.Tag = 0
kind_number Kind.Integer = 1
kind_number Kind.Unsigned = 2
kind_number Kind.Float = 3
kind_number Kind.String = 4
kind_number Kind.Boolean = 5

-- the number of a kind of fault
abbrev pub fault_number : FaultKind → ℕ
fault_number FaultKind.None = 0
fault_number FaultKind.DuplicateTag = 1
fault_number FaultKind.MeasurementValueInvalid = 2
fault_number FaultKind.FieldSetMissing = 3
fault_number FaultKind.IntegerValueInvalid = 4
fault_number FaultKind.UIntegerValueInvalid = 5
fault_number FaultKind.TimestampValueInvalid = 6
fault_number FaultKind.EndsWithBackslash = 7
fault_number FaultKind.CannotParseEntireLine = 8
fault_number FaultKind.TagSetMalformed = 9
fault_number FaultKind.GenericParsingError = 10

-- the number of a side
abbrev pub side_number : Side → ℕ
side_number Side.Neither = 0
side_number Side.Above = 1
side_number Side.Below = 2

-- the side that a fault names
abbrev pub side_of : reading.Side → Side
side_of above = side.Above
side_of below = side.Below

-- a fault as a caller sees it: its kind, its side, and its text
pub record FaultSeen : Type 0 where
  pub kind : FaultKind
  pub side : Side
  pub text : List ℕ

-- a fault without a number or a text
abbrev pub bare_fault : FaultKind → FaultSeen
bare_fault kind = record { kind = kind; side = side.Neither; text = [] }

-- a fault that names a number
abbrev pub number_fault : FaultKind → reading.Side → List ℕ → FaultSeen
number_fault kind side text = record { kind = kind; side = side_of side; text = text }

-- what a caller sees of a fault
abbrev pub fault_seen : Fault → FaultSeen
fault_seen measurement_value_invalid = bare_fault FaultKind.MeasurementValueInvalid
fault_seen field_set_missing = bare_fault FaultKind.FieldSetMissing
fault_seen (integer_value_invalid side text) = number_fault FaultKind.IntegerValueInvalid side text
fault_seen (uinteger_value_invalid side text) = number_fault FaultKind.UIntegerValueInvalid side text
fault_seen (timestamp_value_invalid side text) = number_fault FaultKind.TimestampValueInvalid side text
fault_seen ends_with_backslash = bare_fault FaultKind.EndsWithBackslash
fault_seen (cannot_parse_entire_line rest) = record { kind = FaultKind.CannotParseEntireLine; side = side.Neither; text = rest }
fault_seen tag_set_malformed = bare_fault FaultKind.TagSetMalformed
fault_seen take_while1 = bare_fault FaultKind.GenericParsingError
