-- Values of the code, as the definitions have them.
use Rattle.std.specs.Prelude.{Bool, true, false}
use Rattle.lp_values.specs.declared.values.FieldValue.{FieldValue}
use Rattle.lp_values.specs.declared.values.FieldValue.TheVariants.{I64, U64, F64, String, Boolean}
use Rattle.lp_format.specs.format.{Text, Value, integer, unsigned, float, string, boolean}
use Rattle.lp_values.specs.code.Texts.{literal_of, read_of}

-- the value of the definitions that a value of the code is
abbrev pub value_of : FieldValue → Value Text
value_of (I64 z) = integer z
value_of (U64 n) = unsigned n
value_of (F64 f) = float (literal_of f)
value_of (String s) = string (read_of s)
value_of (Boolean b) = boolean b

-- whether two values are of the same variant
abbrev pub is_same_variant : FieldValue → FieldValue → Bool
is_same_variant (I64 x) (I64 y) = true
is_same_variant (U64 x) (U64 y) = true
is_same_variant (F64 x) (F64 y) = true
is_same_variant (String x) (String y) = true
is_same_variant (Boolean x) (Boolean y) = true
is_same_variant x y = false
