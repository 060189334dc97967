-- The texts of faults.
use Rattle.std.specs.{Prelude.ℕ, Prelude.List, Prelude.◌++◌, Prelude.codes, Prelude.string_bytes, Option.option_map_or}
use Rattle.lp_values.specs.declared.error.Error.{Error}
use Rattle.lp_values.specs.declared.error.Error.TheVariants as error
use Rattle.lp_values.specs.code.Outcomes.{fault_of}
use Rattle.lp_format.specs.format as format

-- the text of a fault of a line
abbrev pub fault_text : format.Fault → List ℕ
fault_text format.measurement_value_invalid = codes "Invalid measurement was provided"
fault_text format.field_set_missing = codes "No fields were provided"
fault_text format.ends_with_backslash = codes "Measurements, tag keys and values, and field keys may not end with a backslash"
fault_text format.tag_set_malformed = codes "Tag Set Malformed"
fault_text format.take_while1 = codes "A generic parsing error occurred: TakeWhile1"
fault_text (format.integer_value_invalid side value) = codes "Unable to parse integer value '" ++ value ++ codes "'"
fault_text (format.uinteger_value_invalid side value) = codes "Unable to parse unsigned integer value '" ++ value ++ codes "'"
fault_text (format.timestamp_value_invalid side value) = codes "Unable to parse timestamp value '" ++ value ++ codes "'"
fault_text (format.cannot_parse_entire_line rest) = codes "Could not parse entire line. Found trailing content: '" ++ rest ++ codes "'"

-- the text that `{}` writes of an error
abbrev pub error_text : Error → List ℕ
error_text (error.DuplicateTag key) = codes "Must not contain duplicate tags, but \"" ++ string_bytes key ++ codes "\" was repeated"
error_text e = option_map_or fault_text (fault_of e) (codes "out of memory")
