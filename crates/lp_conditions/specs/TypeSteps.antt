-- What each step of looking at the fields of a line, and of keeping their types, gives.
use Rattle.std.specs.Prelude.{◌≡◌, ℕ, ◌+◌, List, map, Option, Some, None, Result, Ok, Err, String}
use Rattle.std.specs.{BTreeMap.BTreeMap, BTreeMap.btree_map_len, BTreeMap.get_by_text, Option.option_or}
use Rattle.std.specs.declared.alloc.Global.{Global}
use Rattle.influxdb_line_protocol.specs.code.Parsed.{field_of}
use Rattle.influxdb_line_protocol.specs.format.{Lines.logical_field, Points.Field, Points.Point}
use Rattle.influxdb_line_protocol.specs.types.{EscapedStr.EscapedStr, FieldValue.FieldValue}
use Rattle.lp_conditions.specs.declared.field_types.{Checked.Checked, FieldType.FieldType, TypeFault.TypeFault}
use Rattle.lp_conditions.specs.declared.field_types.Checked.TheVariants.{Fit, Fault}
use Rattle.lp_conditions.specs.FieldTypes.{OfFields, Types, after_fields, after_point}

-- the fields that were read
abbrev pub fields_of : List (EscapedStr × FieldValue) → List Field
fields_of fields = map logical_field (map field_of fields)

module _ {Y : Type 0} where
  -- the types that a table has, and how many there are in all
  abbrev pub of_table : BTreeMap (String Y) FieldType → ℕ → OfFields
  of_table known count = record { first = get_by_text known; count = count }

  -- with the new ones of a line
  abbrev pub with_fresh : BTreeMap (String Y) FieldType → ℕ → BTreeMap (String Y) FieldType → OfFields
  with_fresh known count fresh =
      record { first = λ key. option_or (get_by_text fresh key) (get_by_text known key); count = count + btree_map_len fresh }

-- these types, or a fault, if there is one
abbrev pub types_unless : {T : Type 0} → Option TypeFault → T → Result T TypeFault
types_unless None types = Ok types
types_unless (Some fault) types = Err fault

-- what came of the fields of a line
abbrev pub of_checked : BTreeMap (String Global) FieldType → ℕ → Checked → Result OfFields TypeFault
of_checked known count (Fit fresh) = Ok (with_fresh known count fresh)
of_checked known count (Fault fault) = Err fault

-- the types of a line's fields are in a table too, of so many in all; or a fault came, and the table stays
abbrev pub KeepsIn : {Y : Type 0} → (most : ℕ) → (old : BTreeMap (String Y) FieldType) → ℕ → List Field → Result ℕ TypeFault
    → (new : BTreeMap (String Y) FieldType) → Type 0
KeepsIn most old count fields (Ok n) new = after_fields most (of_table old count) 1 fields ≡ Ok (of_table new n)
KeepsIn most old count fields (Err fault) new = (after_fields most (of_table old count) 1 fields ≡ Err fault) × (new ≡ old)

-- the types of a line's fields are known too; or a fault came, and what is known stays
abbrev pub Keeps : (most : ℕ) → Types → Point → Option TypeFault → (new : Types) → Type 0
Keeps most old p None new = after_point most old p ≡ Ok new
Keeps most old p (Some fault) new = (after_point most old p ≡ Err fault) × (new ≡ old)
