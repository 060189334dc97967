-- An integer reads back as it was written.
use Rattle.std.proofs.Common.{◌≡◌, ℕ, suc, ◌^◌, ◌<◌, List, [], ◌∷◌, ◌++◌, length, true, refl, sym, arith, inr, ℤ, pos, negsuc, decimal}
use Rattle.std.proofs.Common.{codes, ne_eqb, take_at, drop_at}
use Rattle.std.specs.{Fmt.signed_decimal, Str.Parse.IsNumeral, Str.Parse.digits_value, Str.Parse.signed_digits_value}
use Rattle.std.proofs.lemmas.{Fmt.decimal_is_IsNumeral, Str.Parse.digit_from_value}
use Rattle.lp_format.specs.format.{spaces, reads, digits_len, fits_i64, integer, integer_at, integer_len, letter_i, minus}
use Rattle.lp_format.proofs.lemmas.values.ValueLemmas.{fits_from_test, integer_parsed}
use Rattle.lp_format.proofs.lemmas.literals.FloatLemmas.{minus_no_digit, signed_before}

-- digits before a text that begins with no digit are an integer of this length
pub unsigned_len : (ds tail : List ℕ) → IsNumeral 10 ds → digits_len tail ≡ 0 → integer_len (ds ++ tail) ≡ length ds
unsigned_len [] tail numeral ends = absurd (omega arith)
unsigned_len (d ∷ ds) tail numeral ends = omega (arith, signed_before (codes "-") (d ∷ ds) tail minus_no_digit (inr numeral), ends)

-- the value of digits without a sign is the value of the digits
unsigned_value : (ds : List ℕ) → IsNumeral 10 ds → signed_digits_value 10 ds ≡ pos (digits_value 10 ds)
unsigned_value ds numeral = grind (arith, digit_from_value, ne_eqb)

-- the text of an integer in range: it is not empty, begins with no space, has the value of the integer, and is an integer of this length
-- before any text that begins with no digit
pub record Written (z : ℤ) : Type 0 where
  pub some : 0 < length (signed_decimal z)
  pub len : (tail : List ℕ) → digits_len tail ≡ 0 → integer_len (signed_decimal z ++ tail) ≡ length (signed_decimal z)
  pub value : signed_digits_value 10 (signed_decimal z) ≡ z
  pub no_space : spaces (signed_decimal z) ≡ 0

-- a text of digits begins with no space
no_space_first : (ds : List ℕ) → IsNumeral 10 ds → spaces ds ≡ 0
no_space_first [] numeral = refl
no_space_first (d ∷ ds) numeral = grind (arith, digit_from_value, ne_eqb)

-- the text of each integer in range is as `Written` says
pub integer_written : (z : ℤ) → fits_i64 z ≡ true → Written z
integer_written (pos n) fits = grind (arith, fits_from_test, decimal_is_IsNumeral, unsigned_len, unsigned_value, no_space_first)
integer_written (negsuc n) fits =
    let small : n < 2 ^ 63 = (fits_from_test (negsuc n) fits).sfits in
    let written = decimal_is_IsNumeral (suc n) (omega arith) in
    let len = signed_before (codes "-") (minus ∷ decimal (suc n)) in
    grind (arith, minus_no_digit)

-- the text of an integer and `i` read back as the integer
pub integer_reads_back : (z : ℤ) (rest : List ℕ) → fits_i64 z ≡ true → integer_at (signed_decimal z ++ letter_i ∷ rest) ≡ reads (integer z) rest
integer_reads_back z rest fits =
    let written = integer_written z fits in
    let number = signed_decimal z in
    let len = written.len (letter_i ∷ rest) refl in
    integer_parsed (number ++ letter_i ∷ rest) number rest z (rw len (sym (take_at number (letter_i ∷ rest) (length number) refl)))
    (rw len (drop_at number (letter_i ∷ rest) (length number) refl))
    written.some (rw written.value (fits_from_test z fits)) (sym written.value)
