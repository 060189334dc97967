-- The messages of the faults that callers in C hand in.
use Rattle.std.specs.Prelude.{◌≡◌, ℕ, ◌≤◌, ◌==◌, List, ◌++◌, codes, length, string_bytes, Option, Some, option_map, if◌then◌else◌, IsUtf8}
use Rattle.influxdb_line_protocol.specs.format.Readings.{above, cannot_parse_entire_line, ends_with_backslash, field_set_missing}
use Rattle.influxdb_line_protocol.specs.format.Readings.{integer_value_invalid, measurement_value_invalid, tag_set_malformed, take_while1}
use Rattle.influxdb_line_protocol.specs.format.Readings.{timestamp_value_invalid, uinteger_value_invalid}
use Rattle.influxdb_line_protocol.specs.code.Faults.{fault_text}
use Rattle.influxdb_line_protocol.specs.code.Outcomes.{fault_of}
use Rattle.influxdb_line_protocol.specs.types.Error.{Error}
use Rattle.lp_values.specs.declared.error.Error.TheVariants as error
use Rattle.lp_offsets.specs.Numbers.{FaultSeen, fault_number, fault_seen}
use Rattle.lp_c.specs.declared.messages.Message.{Message}
use Rattle.lp_offsets.specs.declared.enums.FaultKind.{FaultKind}
use Rattle.lp_c.specs.declared.views.Line.{Line}
use Rattle.lp_offsets.specs.declared.enums.Side.TheVariants as side

-- the message of a repeated key of tags
abbrev pub repeated_key_text : List ℕ → List ℕ
repeated_key_text key = codes "Must not contain duplicate tags, but \"" ++ key ++ codes "\" was repeated"

-- the message of the fault with this number and this text: what Display of the library's `Error` writes; only the message of a
-- number, of a key or of the rest of a line has the text
abbrev pub message_by : ℕ → List ℕ → List ℕ
message_by number text =
    if number == fault_number FaultKind.DuplicateTag then repeated_key_text text
    else if number == fault_number FaultKind.MeasurementValueInvalid then fault_text measurement_value_invalid
    else if number == fault_number FaultKind.FieldSetMissing then fault_text field_set_missing
    else if number == fault_number FaultKind.IntegerValueInvalid then fault_text (integer_value_invalid above text)
    else if number == fault_number FaultKind.UIntegerValueInvalid then fault_text (uinteger_value_invalid above text)
    else if number == fault_number FaultKind.TimestampValueInvalid then fault_text (timestamp_value_invalid above text)
    else if number == fault_number FaultKind.EndsWithBackslash then fault_text ends_with_backslash
    else if number == fault_number FaultKind.CannotParseEntireLine then fault_text (cannot_parse_entire_line text)
    else if number == fault_number FaultKind.TagSetMalformed then fault_text tag_set_malformed
    else fault_text take_while1

-- the message of the fault that a line shows
abbrev pub message_in : Line → List ℕ
message_in line = message_by line.fault line.fault_text.now

-- a number is that of a kind of fault
pub record IsFaultNumber (number : ℕ) : Type 0 where
  pub some : fault_number FaultKind.DuplicateTag ≤ number
  pub known : number ≤ fault_number FaultKind.GenericParsingError

-- a line shows a fault: of a kind that there is, and its text is UTF-8
pub record IsFaultIn (line : Line) : Type 0 where
  pub number : IsFaultNumber line.fault
  pub text : IsUtf8 line.fault_text.now

-- the kind, the side and the text of an error of the library, if it is a fault
abbrev pub error_seen : Error → Option FaultSeen
error_seen (error.DuplicateTag key) =
    Some (record { kind = FaultKind.DuplicateTag; side = side.Neither; text = string_bytes key })
error_seen e = option_map fault_seen (fault_of e)

-- a line shows the kind and the text of this error of the library
pub record ShowsError (line : Line) (e : Error) : Type 0 where
  pub seen : FaultSeen
  pub is : error_seen e ≡ Some seen
  pub kind : line.fault ≡ fault_number seen.kind
  pub text : line.fault_text.now ≡ seen.text

-- the bytes of a message
abbrev pub message_bytes : Message → List ℕ
message_bytes message = message.front.now ++ message.text.now ++ message.back.now

-- what comes before and after the text of a message is short
pub record IsShort (message : Message) : Type 0 where
  pub front : length message.front.now ≤ 128
  pub back : length message.back.now ≤ 128
