-- The faults and the kinds of names of the code, as the definitions have them.
use Rattle.std.specs.Prelude.{◌≢◌, Option, Some, None, IfSome, Result, Err, string_bytes}
use Rattle.lp_values.specs.declared.names.NameKind.TheVariants.{Measurement, TagKey, TagValue, FieldKey}
use Rattle.lp_values.specs.declared.{error.Error.Error, error.OutOfRange.OutOfRange, error.OutOfRange.TheVariants.Above}
use Rattle.lp_values.specs.declared.{error.OutOfRange.TheVariants.Below, names.NameKind.NameKind}
use Rattle.lp_values.specs.declared.error.Error.TheVariants as error
use Rattle.lp_format.specs.format as format

-- the kind of name of the definitions that a kind of the code means
abbrev pub kind_of : NameKind → format.NameKind
kind_of Measurement = format.a_measurement
kind_of TagKey = format.a_tag_key
kind_of TagValue = format.a_tag_value
kind_of FieldKey = format.a_field_key

-- the side of the definitions that a side of the code means
abbrev pub side : OutOfRange → format.Side
side Above = format.above
side Below = format.below

-- the fault of a line that an error is; a repeated key and `OutOfMemory` are no faults of a line
abbrev pub fault_of : Error → Option format.Fault
fault_of error.MeasurementValueInvalid = Some format.measurement_value_invalid
fault_of error.FieldSetMissing = Some format.field_set_missing
fault_of (error.IntegerValueInvalid source value) = Some (format.integer_value_invalid (side source) (string_bytes value))
fault_of (error.UIntegerValueInvalid source value) = Some (format.uinteger_value_invalid (side source) (string_bytes value))
fault_of (error.TimestampValueInvalid source value) = Some (format.timestamp_value_invalid (side source) (string_bytes value))
fault_of error.EndsWithBackslash = Some format.ends_with_backslash
fault_of (error.CannotParseEntireLine rest) = Some (format.cannot_parse_entire_line (string_bytes rest))
fault_of error.TagSetMalformed = Some format.tag_set_malformed
fault_of (error.GenericParsingError kind) = Some format.take_while1
fault_of other = None

-- the error is a fault that `Is` allows, or is `OutOfMemory`; it is no repeated key
abbrev pub IsFault : Error → (format.Fault → Type 0) → Type 0
IsFault (error.DuplicateTag key) Is = ⊥
IsFault e Is = IfSome (fault_of e) Is

-- the result is not the error `OutOfMemory`
abbrev pub IsNotOutOfMemory : {X : Type 0} → Result X Error → Type 0
IsNotOutOfMemory result = result ≢ Err error.OutOfMemory
