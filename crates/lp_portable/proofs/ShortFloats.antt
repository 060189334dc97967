-- A literal of a float that is short and has no exponent has a finite number.
use Rattle.std.proofs.Common.{zero, suc, ◌≡◌, ℕ, ◌+◌, ◌*◌, ◌^◌, ◌<◌, ◌≤◌, Bool, true, false, List, [], ◌∷◌, ◌++◌, length, length-append, codes, refl, sym, ◌∙◌, ap, arith, inl, inr, append_assoc, ap₂, ◌==◌, ◌||◌}
use Rattle.std.specs.Prelude.{if◌then◌else◌}
use Rattle.std.specs.{List.list_any, Float.float_is_finite, Float.binary64, Float.Parse.parse_float}
use Rattle.std.specs.Str.Parse.{AllDigits, IsNumeral, digits_value}
use Rattle.std.specs.Float.Numeral.{IsWellFormed, Parts, text_of}
use Rattle.std.specs.Fmt.{sign_text}
use Rattle.std.specs.Prelude.{T}
use Rattle.std.proofs.lemmas.{Bool.cases_Bool, Bool.false≢true, Bool.eqb-true, Bool.le-ltb, List.Folds.list_any-append, Int.Digits.digits_value-lt, Float.Parse.parse_float-text_of}
use lib.Ieee.{Float, Format, fin, inf, le, nan, odd, round, units}
use lib.Ieee.Order.{round_mono}
use lib.Dec.{lit<}
use native.Mathlib.Nat.{mul-le-mul, pow-le-pow_right, le_trans, le_of_lt}
use Rattle.lp_format.specs.format.{is_one_of}
use Rattle.lp_format.specs.format.Values.{IsFloat, IsMarked, IsSigned}
use Rattle.lp_format.specs.format.{float}
use Rattle.lp_portable.specs.format.Portable.{is_finite_number}
use Rattle.lp_portable.specs.code.Sure.{is_sure_value}

-- A number between two finite numbers is finite.
finite_between : (x : Float) → T (le (round binary64 false 0 1) x) → T (le x (round binary64 false (10 ^ 308) 1)) → float_is_finite x ≡ true
unfolding le float_is_finite round
finite_between nan low high = absurd low
finite_between (inf true) low high = absurd low
finite_between (inf false) low high = absurd high
finite_between (fin s m e) low high = refl

-- a fraction of so few digits rounds to a finite number
finite_above : (num den : ℕ) → 0 < den → num ≤ 10 ^ 308 * den → float_is_finite (round binary64 false num den) ≡ true
finite_above num den some few =
    finite_between (round binary64 false num den) (round_mono binary64 0 1 num den (omega arith) some (omega arith))
    (round_mono binary64 num den (10 ^ 308) 1 some (omega arith) (omega (arith, few)))

-- an odd number of so many units is finite
finite_odd : (d : ℕ) (s : Bool) (q k l : ℕ) → float_is_finite (odd d s q k l) ≡ true
unfolding odd float_is_finite
finite_odd d s zero k l = refl
finite_odd d s (suc q) k l = refl

-- either sign is as finite
finite_units : (f : Format) (s : Bool) (q k : ℕ) → float_is_finite (units f s q k) ≡ float_is_finite (units f false q k)
unfolding units float_is_finite odd
finite_units f s q k = grind arith

-- either sign of a fraction is as finite
finite_sign : (s : Bool) (num den : ℕ) → float_is_finite (round binary64 s num den) ≡ float_is_finite (round binary64 false num den)
unfolding round
finite_sign s num den = finite_units binary64 s _ _

-- digits and then digits are digits
both_digits : (xs ys : List ℕ) → AllDigits 10 xs → AllDigits 10 ys → AllDigits 10 (xs ++ ys)
both_digits [] ys a b = b
both_digits (x ∷ xs) ys a b = (a.0, both_digits xs ys a.1 b)

-- digits, and a point and digits or not
abbrev parts_of : List ℕ → Bool → List ℕ → Parts
parts_of digits point ds =
    record {
      whole = digits;
      point = point;
      fraction = ds;
      exponent_negative = false;
      exponent = [];
      len = length (digits ++ ((if point then 46 ∷ ds else []) ++ []));
    }

-- A literal of at most 308 digits is a finite number.
number_finite : (negative : Bool) (digits : List ℕ) (point : Bool) (ds : List ℕ) → AllDigits 10 digits → AllDigits 10 ds → 0 < length digits
    → (point ≡ false → ds ≡ []) → length digits + length ds ≤ 308
    → is_finite_number (parse_float binary64 (sign_text negative ++ text_of (parts_of digits point ds))) ≡ true
number_finite negative digits point ds whole fraction some none few =
    let p = parts_of digits point ds in
    let formed : IsWellFormed p = record {
      whole_digits = whole;
      fraction_digits = fraction;
      exponent_digits = tt;
      no_point = none;
      no_exponent = λ empty. refl;
      len_is = refl;
    } in
    let less = digits_value-lt 10 (digits ++ ds) (both_digits digits ds whole fraction) in
    let within : length (digits ++ ds) ≤ 308 = omega (arith, length-append digits ds, few) in
    let most : 10 ^ length (digits ++ ds) ≤ 10 ^ 308 = pow-le-pow_right (lit< tt) within in
    let value : digits_value 10 (digits ++ ds) ≤ 10 ^ 308 = le_trans (le_of_lt less) most in
    let least : 0 ≤ length ds + 0 = omega arith in
    let one : 10 ^ 0 ≤ 10 ^ (length ds + 0) = pow-le-pow_right (lit< tt) least in
    let den : 0 < 10 ^ (length ds + 0) = omega (arith, one) in
    ap is_finite_number (parse_float-text_of binary64 negative p formed some) ∙ finite_sign negative _ _
    ∙ finite_above _ (10 ^ (length ds + 0)) den (mul-le-mul value one)

-- the only byte is that
one_is : (x b : ℕ) → is_one_of (x ∷ []) b ≡ true → x ≡ b
one_is x b h = elim (cases_Bool (x == b)) [
  | inl here ↦ eqb-true x b here
  | inr other ↦ let never : false ≡ true = rw other at h in absurd (false≢true never)
]

-- neither of two
neither : (a b : Bool) → (a || b) ≡ false → (a ≡ false) × (b ≡ false)
neither true b h = absurd (false≢true (sym h))
neither false b h = (refl, h)

-- a part with no `e` and no `E` is no exponent
no_power : (exponent : List ℕ) → IsMarked (codes "eE") (IsSigned (codes "+-")) exponent → list_any (is_one_of (codes "eE")) exponent ≡ false
    → exponent ≡ []
no_power [] marked bare = refl
no_power (b ∷ part) marked bare = absurd (false≢true (sym (neither (is_one_of (codes "eE") b) _ bare).0 ∙ marked.0))

-- digits with a sign or none
record Signed (whole : List ℕ) : Type 0 where
  negative : Bool
  digits : List ℕ
  is : whole ≡ sign_text negative ++ digits
  numeral : IsNumeral 10 digits

-- The whole part of a float has a sign or none, and digits.
whole_signed : (whole : List ℕ) → IsSigned (codes "-") whole → Signed whole
whole_signed [] h = absurd h
whole_signed (b ∷ digits) (inl h) =
    record { negative = true; digits = digits; is = ap (λ (c : ℕ). c ∷ digits) (sym (one_is 45 b h.0)); numeral = h.1 }
whole_signed (b ∷ digits) (inr h) = record { negative = false; digits = b ∷ digits; is = refl; numeral = h }

-- a point and digits, or nothing
record Pointed (fraction : List ℕ) : Type 0 where
  point : Bool
  digits : List ℕ
  is : fraction ≡ (if point then 46 ∷ digits else [])
  all : AllDigits 10 digits
  none : point ≡ false → digits ≡ []
  few : length digits ≤ length fraction

-- The fraction of a float is a point and digits, or nothing.
fraction_pointed : (fraction : List ℕ) → IsMarked (codes ".") (IsNumeral 10) fraction → Pointed fraction
fraction_pointed [] h = record { point = false; digits = []; is = refl; all = tt; none = λ e. refl; few = omega arith }
fraction_pointed (b ∷ digits) h =
    record {
      point = true;
      digits = digits;
      is = ap (λ (c : ℕ). c ∷ digits) (sym (one_is 46 b h.0));
      all = h.1.1;
      none = λ never. absurd (false≢true (sym never));
      few = omega arith;
    }

-- a short literal with no exponent has a finite number
pub literal_finite : (text : List ℕ) → IsFloat text → list_any (is_one_of (codes "eE")) text ≡ false → length text ≤ 300
    → is_finite_number (parse_float binary64 text) ≡ true
literal_finite text (whole, fraction, exponent, is, signed, marked, power) bare short =
    let p = is_one_of (codes "eE") in
    let first = neither (list_any p whole) _ (sym (list_any-append p whole (fraction ++ exponent)) ∙ sym (ap (list_any p) is) ∙ bare) in
    let last = neither (list_any p fraction) _ (sym (list_any-append p fraction exponent) ∙ first.1) in
    let empty = no_power exponent power last.1 in
    let w = whole_signed whole signed in
    let f = fraction_pointed fraction marked in
    let tail : fraction ++ exponent ≡ (if f.point then 46 ∷ f.digits else []) ++ [] =
    ap₂ (λ (x y : List ℕ). x ++ y) f.is empty in
    let same : text ≡ sign_text w.negative ++ text_of (parts_of w.digits f.point f.digits) =
    is ∙ ap₂ (λ (x y : List ℕ). x ++ y) w.is tail ∙ append_assoc (sign_text w.negative) w.digits _ in
    let few : length w.digits + length f.digits ≤ 308 = omega (
      arith,
      short,
      ap length is,
      length-append whole (fraction ++ exponent),
      length-append fraction exponent,
      ap length w.is,
      length-append (sign_text w.negative) w.digits,
      f.few,
    ) in
    ap (λ (t : List ℕ). is_finite_number (parse_float binary64 t)) same
    ∙ number_finite w.negative w.digits f.point f.digits w.numeral.1 f.all w.numeral.0 f.none few

-- A float with a short literal without an exponent surely breaks no clause.
pub short_is_sure : (text : List ℕ) → IsFloat text → list_any (is_one_of (codes "eE")) text ≡ false → length text ≤ 300
    → is_sure_value (float text) ≡ true
short_is_sure text is bare short =
    let finite = literal_finite text is bare short in
    rw (bare, le-ltb 310 (length text) (omega (arith, short)), finite) refl
