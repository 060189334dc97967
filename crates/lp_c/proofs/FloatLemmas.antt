-- The literals of floats are texts of which std reads a number, and are UTF-8.
use Rattle.std.proofs.Common.{◌≡◌, ℕ, ◌++◌, List, [], ◌∷◌, cond, true, false, refl, sym, ◌∙◌, subst, arith, inl, inr, append-nil}
use Rattle.std.specs.Prelude.{◌==◌, codes, nat_lt}
use Rattle.std.specs.Char.{is_ascii_digit}
use Rattle.std.specs.Str.{IsUtf8}
use Rattle.std.specs.Str.Parse.{AllDigits, IsNumeral}
use Rattle.std.specs.Float.Parse.{completes_number, float_scan_step, is_float_text, without_sign}
use Rattle.std.proofs.lemmas.Str.{IsUtf8-from_ascii}
use Rattle.std.proofs.lemmas.{Bool.cases_lt, Grind.common_steps, List.get_or_past}
use Rattle.std.proofs.lemmas.Str.Parse.{digit_from_value}
use Rattle.std.proofs.lemmas.Bool.{or_cases, eqb-true, ne_eqb, false≢true}
use Rattle.lp_format.specs.format.Bytes.{is_one_of}
use Rattle.lp_format.specs.format.Values.{IsFloat, IsMarked, IsSigned}
use Rattle.lp_format.proofs.lemmas.literals.FloatLemmas.{digit_passes, float_bytes}

-- how far a reader of a number has come after a digit
abbrev after_digit : ℕ → ℕ
after_digit s = cond (nat_lt s 2) 1 (cond (nat_lt s 4) 3 (cond (nat_lt s 7) 6 7))

-- a digit leads a reader there
step_digit : (s d : ℕ) → is_ascii_digit d ≡ true → float_scan_step s d ≡ after_digit s
step_digit s d digit = rw digit refl

-- among digits a reader stays where it is
digits_lead : (s : ℕ) (ds rest : List ℕ) → AllDigits 10 ds → after_digit s ≡ s → completes_number s (ds ++ rest) ≡ completes_number s rest
digits_lead s [] rest digits stays = refl
digits_lead s (d ∷ ds) rest digits stays =
    subst (λ at. completes_number at (ds ++ rest) ≡ completes_number s rest) (sym (step_digit s d (digit_passes d digits.0) ∙ stays))
    (digits_lead s ds rest digits.1 stays)

-- a numeral leads a reader to where each of its digits leads
numeral_leads : (s t : ℕ) (ds rest : List ℕ) → IsNumeral 10 ds → after_digit s ≡ t → after_digit t ≡ t
    → completes_number s (ds ++ rest) ≡ completes_number t rest
numeral_leads s t [] rest numeral leads stays = absurd (omega (arith, numeral.0))
numeral_leads s t (d ∷ ds) rest numeral leads stays =
    subst (λ at. completes_number at (ds ++ rest) ≡ completes_number t rest) (sym (step_digit s d (digit_passes d numeral.1.0) ∙ leads))
    (digits_lead t ds rest numeral.1.1 stays)

-- what holds of a byte holds of the byte that it is
one_of_one : (P : ℕ → Type 0) (x b : ℕ) → is_one_of (x ∷ []) b ≡ true → P x → P b
one_of_one P x b is holds =
    elim (or_cases (x == b) false is) [ inl e ↦ subst P (eqb-true x b e) holds | inr never ↦ absurd (false≢true never) ]

-- what holds of two bytes holds of a byte that is one of them
one_of_two : (P : ℕ → Type 0) (x y b : ℕ) → is_one_of (x ∷ y ∷ []) b ≡ true → P x → P y → P b
one_of_two P x y b is first second =
    elim (or_cases (x == b) (is_one_of (y ∷ []) b) is) [
      | inl e ↦ subst P (eqb-true x b e) first
      | inr other ↦ one_of_one P y b other second
    ]

-- after an `e`, a number completes a float
power_completes : (text : List ℕ) → IsSigned (codes "+-") text → completes_number 4 text ≡ true
power_completes [] signed = absurd signed
power_completes (b ∷ ds) (inl signed) =
    let all : completes_number 5 (ds ++ []) ≡ true = numeral_leads 5 6 ds [] signed.1 refl refl in
    let rest : completes_number 5 ds ≡ true = subst (λ text. completes_number 5 text ≡ true) (append-nil ds) all in
    one_of_two (λ sign. completes_number 4 (sign ∷ ds) ≡ true) 43 45 b signed.0 rest rest
power_completes (b ∷ ds) (inr numeral) =
    subst (λ text. completes_number 4 text ≡ true) (append-nil (b ∷ ds)) (numeral_leads 4 6 (b ∷ ds) [] numeral refl refl)

-- after the digits of a whole number, an exponent or none completes a float
exponent_after_whole : (text : List ℕ) → IsMarked (codes "eE") (IsSigned (codes "+-")) text → completes_number 1 text ≡ true
exponent_after_whole [] marked = refl
exponent_after_whole (b ∷ text) marked =
    let rest = power_completes text marked.1 in one_of_two (λ mark. completes_number 1 (mark ∷ text) ≡ true) 101 69 b marked.0 rest rest

-- and so it does after the digits of a fraction
exponent_after_fraction : (text : List ℕ) → IsMarked (codes "eE") (IsSigned (codes "+-")) text → completes_number 3 text ≡ true
exponent_after_fraction [] marked = refl
exponent_after_fraction (b ∷ text) marked =
    let rest = power_completes text marked.1 in one_of_two (λ mark. completes_number 3 (mark ∷ text) ≡ true) 101 69 b marked.0 rest rest

-- after the digits of a whole number, a fraction or none and an exponent or none complete a float
fraction_completes : (fraction exponent : List ℕ) → IsMarked (codes ".") (IsNumeral 10) fraction
    → IsMarked (codes "eE") (IsSigned (codes "+-")) exponent → completes_number 1 (fraction ++ exponent) ≡ true
fraction_completes [] exponent marked power = exponent_after_whole exponent power
fraction_completes (b ∷ ds) exponent marked power =
    one_of_one (λ mark. completes_number 1 (mark ∷ (ds ++ exponent)) ≡ true) 46 b marked.0
    (numeral_leads 3 3 ds exponent marked.1 refl refl ∙ exponent_after_fraction exponent power)

-- a number with a sign or none, and what completes it, is a text of a float
signed_completes : (whole rest : List ℕ) → IsSigned (codes "-") whole → completes_number 1 rest ≡ true
    → completes_number 0 (without_sign (whole ++ rest)) ≡ true
signed_completes [] rest signed completes = absurd signed
signed_completes (b ∷ ds) rest (inl signed) completes =
    one_of_one (λ sign. completes_number 0 (without_sign (sign ∷ (ds ++ rest))) ≡ true) 45 b signed.0
    (numeral_leads 0 1 ds rest signed.1 refl refl ∙ completes)
signed_completes (b ∷ ds) rest (inr numeral) completes =
    let range = digit_from_value b numeral.1.0 in
    let no_plus : (b == 43) ≡ false = ne_eqb b 43 (λ e. omega (arith, range, e)) in
    let no_minus : (b == 45) ≡ false = ne_eqb b 45 (λ e. omega (arith, range, e)) in
    rw (no_plus, no_minus) (numeral_leads 0 1 (b ∷ ds) rest numeral refl refl ∙ completes)

-- std reads each literal of a float
pub literal_is_float_text : (t : List ℕ) → IsFloat t → is_float_text t ≡ true
literal_is_float_text t parts =
    let all = signed_completes parts.0 (parts.1 ++ parts.2) parts.4 (fraction_completes parts.1 parts.2 parts.5 parts.6) in
    rw (parts.3, all) refl

-- each literal of a float is UTF-8
pub literal_is_utf8 : (t : List ℕ) → IsFloat t → IsUtf8 t
literal_is_utf8 t parts =
    IsUtf8-from_ascii t (λ i. let byte = float_bytes t parts i 0 in grind (arith, common_steps, cases_lt, get_or_past))
