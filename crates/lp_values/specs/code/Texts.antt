-- The texts of `EscapedStr` and `FloatText`.
use Rattle.std.specs.Prelude.{ℕ, List, Bool, true, false, string_bytes}
use Rattle.lp_values.specs.declared.escaped.EscapedStr.TheVariants.{SingleSlice, CopiedValue}
use Rattle.lp_values.specs.declared.{escaped.EscapedStr.EscapedStr, literals.FloatText.FloatText}
use Rattle.lp_format.specs.format.Readings.{Text}

-- the logical text of a text of the code
abbrev pub text_of : EscapedStr → List ℕ
text_of (SingleSlice s) = s.now
text_of (CopiedValue s) = string_bytes s

-- whether a text of the code is a part of the input or a fixed text
abbrev pub is_single_slice : EscapedStr → Bool
is_single_slice (SingleSlice s) = true
is_single_slice (CopiedValue s) = false

-- the text of the definitions that a text of the code is: its logical text, and whether it is no copy
abbrev pub read_of : EscapedStr → Text
read_of e = record { bytes = text_of e; is_single = is_single_slice e }

-- the text that a `FloatText` was made of
abbrev pub literal_of : FloatText → List ℕ
literal_of f = f.text.now
