-- Which types fields have, if the first type of a field stays, and what comes of a line that gives a field another one.
use Rattle.std.specs.Prelude.{ℕ, ◌+◌, ◌==◌, ◌++◌, nat_lt, Bool, List, [], ◌∷◌, codes, decimal, Option, Some, None, Result, Ok, Err, if◌then◌else◌}
use Rattle.std.specs.{Option.option_and_then, Str.bytes_eq, Map.update, BTreeMap.get_by_text}
use denote.Enum.{Declared.tag_of}
use Rattle.influxdb_line_protocol.specs.format.Points.{Field, Point}
use Rattle.influxdb_line_protocol.specs.format.Values.{Value, integer, unsigned, float, string, boolean}
use Rattle.lp_conditions.specs.contracts.field_types.FieldType.{the_type}
use Rattle.lp_conditions.specs.declared.field_types.{FieldType.FieldType, KnownTypes.KnownTypes, TypeFault.TypeFault}
use Rattle.lp_conditions.specs.declared.field_types.FieldType.TheVariants as type
use Rattle.lp_conditions.specs.declared.field_types.TypeFault.TheVariants.{Conflict, TooMany}

-- the type of a value
abbrev pub type_of : Value (List ℕ) → FieldType
type_of (integer z) = type.Integer
type_of (unsigned n) = type.Unsigned
type_of (float t) = type.Float
type_of (string t) = type.String
type_of (boolean b) = type.Boolean

-- whether two types are the same
abbrev pub is_type : FieldType → FieldType → Bool
is_type a b = tag_of the_type a == tag_of the_type b

-- the first types of the fields of one measurement, by their keys, and of how many fields, of all measurements, a type is known
pub record OfFields : Type 0 where
  pub first : List ℕ → Option FieldType
  pub count : ℕ

-- the first types of fields, by their measurement and key, and of how many fields a type is known
pub record Types : Type 0 where
  pub first : List ℕ → List ℕ → Option FieldType
  pub count : ℕ

-- before the first line
abbrev pub no_types : Types
no_types = record { first = λ measurement key. None; count = 0 }

-- the types of the fields of a measurement
abbrev pub types_in : Types → (measurement : List ℕ) → OfFields
types_in types measurement = record { first = types.first measurement; count = types.count }

-- with the types of the fields of a measurement in place of those that it had
abbrev pub with_types : Types → (measurement : List ℕ) → OfFields → Types
with_types types measurement fields =
    record { first = λ other. if bytes_eq measurement other then fields.first else types.first other; count = fields.count }

-- a field of a line, by its number, that had this type before, if any: it is of the same type, or is new, and there is room for it
abbrev pub after_first : (most : ℕ) → OfFields → (number : ℕ) → Field → Option FieldType → Result OfFields TypeFault
after_first most fields number f (Some was) =
    if is_type was (type_of f.value) then Ok fields else Err (Conflict number (type_of f.value) was)
after_first most fields number f None =
    if nat_lt fields.count most
    then Ok (record { first = update bytes_eq fields.first f.key (Some (type_of f.value)); count = fields.count + 1 })
    else Err (TooMany number)

-- the types once a field of a line is taken
abbrev pub after_field : (most : ℕ) → OfFields → (number : ℕ) → Field → Result OfFields TypeFault
after_field most fields number f = after_first most fields number f (fields.first f.key)

-- what comes after a result, if it is no fault
abbrev pub and_then : Result OfFields TypeFault → (OfFields → Result OfFields TypeFault) → Result OfFields TypeFault
and_then (Ok fields) next = next fields
and_then (Err fault) next = Err fault

-- the types once the fields of a line are taken, one after another: no fault of any of them
abbrev pub after_fields : (most : ℕ) → OfFields → (number : ℕ) → List Field → Result OfFields TypeFault
after_fields most fields number [] = Ok fields
after_fields most fields number (f ∷ others) =
    and_then (after_field most fields number f) (λ next. after_fields most next (number + 1) others)

-- the types with those of a line's fields
abbrev pub with_fields : Types → (measurement : List ℕ) → Result OfFields TypeFault → Result Types TypeFault
with_fields types measurement (Ok fields) = Ok (with_types types measurement fields)
with_fields types measurement (Err fault) = Err fault

-- the types once the line of a point went out, if no field of it is of another type, and there is room for the new ones
abbrev pub after_point : (most : ℕ) → Types → Point → Result Types TypeFault
after_point most types p = with_fields types p.measurement (after_fields most (types_in types p.measurement) 1 p.fields)

-- the types that are known
abbrev pub types_of : KnownTypes → Types
types_of known = record {
  first = λ measurement key. option_and_then (λ fields. get_by_text fields key) (get_by_text known.fields measurement);
  count = known.count;
}

-- a type, as faults name it
abbrev pub type_text : FieldType → List ℕ
type_text type.Float = codes "a float"
type_text type.Integer = codes "an integer"
type_text type.Unsigned = codes "an unsigned integer"
type_text type.String = codes "a string"
type_text type.Boolean = codes "a Boolean"

-- what is wrong with a line that is refused for this
abbrev pub type_fault_text : TypeFault → List ℕ
type_fault_text (Conflict number is was) =
    codes "field type conflict: field " ++ decimal number ++ codes " is " ++ type_text is ++ codes ", and was " ++ type_text was ++ codes " before"
type_fault_text (TooMany number) = codes "too many fields: field " ++ decimal number ++ codes " is new"
