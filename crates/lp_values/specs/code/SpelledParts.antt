-- Names, strings, values and faults as they are spelled in the input, and the results of reading them.
use Rattle.std.specs.Prelude.{◌≡◌, ℕ, List, Option, Some, None, Result, Ok, Err}
use Rattle.std.specs.Borrow.{Bor}
use Rattle.lp_values.specs.declared.spelled.SpelledValue.TheVariants.{I64, U64, F64, String, Boolean}
use Rattle.lp_values.specs.declared.{spelled.Spelled.Spelled, spelled.SpelledFault.SpelledFault, spelled.SpelledValue.SpelledValue}
use Rattle.lp_values.specs.declared.spelled.SpelledFault.TheVariants as fault
use Rattle.lp_format.specs.format as format
use Rattle.lp_format.specs.format.{Fault, Read, Reading, Text, Value, fatal, miss, read_text, reads}
use Rattle.lp_scan.specs.code.{known_of}
use Rattle.lp_values.specs.code.{Outcomes.side, Texts.literal_of}

-- the spelling of a name or a string
abbrev pub spelling_of : Spelled → List ℕ
spelling_of s = s.token.text.now

-- the bytes that a backslash may escape in a name or a string
abbrev pub known_in : Spelled → List ℕ
known_in s = known_of s.token.kind

-- the text that a spelled name or string is read as
abbrev pub spelled_text : Spelled → Text
spelled_text s = read_text (known_in s) (spelling_of s)

-- the value that a spelled value is read as
abbrev pub spelled_value : SpelledValue → Value Text
spelled_value (I64 z) = format.integer z
spelled_value (U64 n) = format.unsigned n
spelled_value (F64 f) = format.float (literal_of f)
spelled_value (String s) = format.string (spelled_text s)
spelled_value (Boolean b) = format.boolean b

-- the fault of a line that a spelled fault is
abbrev pub spelled_fault : SpelledFault → Fault
spelled_fault fault.MeasurementValueInvalid = format.measurement_value_invalid
spelled_fault fault.FieldSetMissing = format.field_set_missing
spelled_fault (fault.IntegerValueInvalid source value) = format.integer_value_invalid (side source) value.now
spelled_fault (fault.UIntegerValueInvalid source value) = format.uinteger_value_invalid (side source) value.now
spelled_fault (fault.TimestampValueInvalid source value) = format.timestamp_value_invalid (side source) value.now
spelled_fault fault.EndsWithBackslash = format.ends_with_backslash
spelled_fault (fault.CannotParseEntireLine rest) = format.cannot_parse_entire_line rest.now
spelled_fault fault.TagSetMalformed = format.tag_set_malformed
spelled_fault (fault.GenericParsingError kind) = format.take_while1

-- the result of the code is the result of a reading; `view` maps a part that the code read to a part of the definitions
abbrev pub GivesSpelled : {X A : Type 0} → (X → A) → Result (Option (X × Bor (List ℕ))) SpelledFault → Reading A → Type 0
GivesSpelled view (Ok None) reading = reading ≡ miss
GivesSpelled view (Ok (Some p)) reading = reading ≡ reads (view p.0) p.1.now
GivesSpelled view (Err e) reading = reading ≡ fatal (spelled_fault e)

-- the result of the code is the wanted part with its rest, or the wanted fault; `view` maps a part that the code read to this part
abbrev pub GivesSpelledRead : {X A : Type 0} → (X → A) → Result (X × Bor (List ℕ)) SpelledFault → Result (Read A) Fault → Type 0
GivesSpelledRead view (Ok p) wanted = wanted ≡ Ok (record { value = view p.0; rest = p.1.now })
GivesSpelledRead view (Err e) wanted = wanted ≡ Err (spelled_fault e)
