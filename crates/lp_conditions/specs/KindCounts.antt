-- The names of the kinds of faults, and how many items are refused for each.
use Rattle.std.specs.Prelude.{ℕ, ◌+◌, Bool, List, codes, if◌then◌else◌}
use Rattle.std.specs.Prelude.{Option}
use Rattle.lp_conditions.specs.declared.kinds.Kind.{Kind}
use Rattle.lp_conditions.specs.declared.kinds.Kind.TheVariants.{CannotParseEntireLine, EndsWithBackslash, FieldSetMissing, FieldTypeConflict, GenericParsingError, IntegerValueInvalid}
use Rattle.lp_conditions.specs.declared.kinds.Kind.TheVariants.{MeasurementValueInvalid, NameNotAdmitted, NotAsWritten, NotPortable, NotUtf8}
use Rattle.lp_conditions.specs.declared.kinds.Kind.TheVariants.{TagSetMalformed, TimeMissing, TimeOutOfRange, TimeOverflow, TimestampValueInvalid, TooLong, TooManyFields, UintegerValueInvalid}
use Rattle.std.specs.Prelude.{ℕ, ◌+◌, Bool, List, get_or, map, sum, Option, option_map, if◌then◌else◌}
use denote.Enum.{Bare.sameb, Declared.tag_of}
use Rattle.lp_conditions.specs.contracts.kinds.Kind.{the_type}
use Rattle.lp_conditions.specs.declared.kinds.{Kind.Kind, KindCounts.KindCounts, TheConstants.KINDS}

-- the name of a kind of fault, as objects tell it
abbrev pub kind_name : Kind → List ℕ
kind_name CannotParseEntireLine = codes "cannot_parse_entire_line"
kind_name EndsWithBackslash = codes "ends_with_backslash"
kind_name FieldSetMissing = codes "field_set_missing"
kind_name FieldTypeConflict = codes "field_type_conflict"
kind_name GenericParsingError = codes "generic_parsing_error"
kind_name IntegerValueInvalid = codes "integer_value_invalid"
kind_name MeasurementValueInvalid = codes "measurement_value_invalid"
kind_name NameNotAdmitted = codes "name_not_admitted"
kind_name NotAsWritten = codes "not_as_written"
kind_name NotPortable = codes "not_portable"
kind_name NotUtf8 = codes "not_utf8"
kind_name TagSetMalformed = codes "tag_set_malformed"
kind_name TimeMissing = codes "time_missing"
kind_name TimeOutOfRange = codes "time_out_of_range"
kind_name TimeOverflow = codes "time_overflow"
kind_name TimestampValueInvalid = codes "timestamp_value_invalid"
kind_name TooLong = codes "too_long"
kind_name TooManyFields = codes "too_many_fields"
kind_name UintegerValueInvalid = codes "uinteger_value_invalid"

-- how many are counted for each kind
abbrev pub Counts : Type 0
Counts = Kind → ℕ

-- the place of the count of a kind
abbrev pub place : Kind → ℕ
place kind = tag_of the_type kind

-- what is counted for each kind
abbrev pub counts_of : KindCounts → Counts
counts_of counts kind = get_or counts.counts (place kind) 0

-- the same, if kinds are counted
abbrev pub counts_if : Option KindCounts → Option Counts
counts_if counts = option_map counts_of counts

-- all that is counted
abbrev pub sum_of : Counts → ℕ
sum_of counts = sum (map counts KINDS.now)

-- whether a kind is this one
abbrev pub is_kind : Kind → Kind → Bool
is_kind kind other = sameb the_type kind other

-- counts, with one fault of this kind counted too
abbrev pub with_fault : Kind → Counts → Counts
with_fault kind counts other = counts other + (if is_kind other kind then 1 else 0)
