-- Escaped texts: the first byte that gets a backslash, the text before it and the text after it. The number of digits of a number.
use Rattle.std.proofs.Common.{◌≡◌, ℕ, suc, zero, ◌+◌, ◌<◌, Bool, true, false, List, [], ◌∷◌, ◌++◌, length, take, drop, get_or, arith, ap}
use Rattle.std.proofs.Common.{refl, ◌-◌, add-one, length-drop, length-append, ◌∙◌, ◌≤◌, ◌^◌, ◌*◌, ◌/◌, take_all, decimal, not, pow-suc}
use Rattle.std.proofs.Common.{eqb, eq-eqb, ne_eqb}
use Rattle.std.proofs.Math.Nat.{one-le-pow}
use Rattle.std.proofs.lemmas.{Fmt.decimal_step, Fmt.decimal_digit, Bool.not-false, Bool.not-true, Bool.cases_eq}
use Rattle.std.proofs.lemmas.{List.Sums.list_all-from_AllPass, List.Elements.All-from_get_or, List.Folds.list_all_at}
use Rattle.lp_format.specs.format.{backslash, is_one_of, escaped}
use Rattle.lp_scan.specs.code.{IsRunAt}
use Rattle.std.specs.List.{list_all}

-- a text in which each byte passes the test
free_whole : (q : ℕ → Bool) (d : List ℕ) → ((k : ℕ) → k < length d → q (get_or d k 0) ≡ true) → list_all q d ≡ true
free_whole q d all = list_all-from_AllPass q d (All-from_get_or (λ b. q b ≡ true) d 0 all)

-- the place of the first byte that fails a test decides whether all pass it
pub first_decides : (q : ℕ → Bool) (d : List ℕ) (r : ℕ) → IsRunAt q d 0 r → eqb r (length d) ≡ list_all q d
first_decides q d r run = grind (arith, cases_eq, eq-eqb, free_whole, ne_eqb, list_all_at)

-- a text without a byte that gets a backslash stays
pub escaped_same : (bytes text : List ℕ)
    → ((k : ℕ) → k < length text → is_one_of bytes (get_or text k 0) ≡ false) → escaped bytes text ≡ text
unfolding escaped
escaped_same bytes [] none = refl
escaped_same bytes (b ∷ text) none =
    let rest : escaped bytes text ≡ text = escaped_same bytes text (λ k h. none (suc k) (omega arith)) in
    rw (none 0 (omega arith)) (ap (λ (xs : List ℕ). b ∷ xs) rest)

-- The first byte that gets a backslash divides a text with its backslashes into the text before it, the backslash, and the rest.
escaped_at : (bytes text : List ℕ) (at : ℕ)
    → at < length text → is_one_of bytes (get_or text at 0) ≡ true
    → ((k : ℕ) → k < at → is_one_of bytes (get_or text k 0) ≡ false)
    → escaped bytes text ≡ take at text ++ backslash ∷ get_or text at 0 ∷ escaped bytes (drop (suc at) text)
unfolding escaped
escaped_at bytes [] at within here before = absurd (omega arith)
escaped_at bytes (b ∷ text) zero within here before = rw here refl
escaped_at bytes (b ∷ text) (suc at) within here before =
    rw (before 0 (omega arith))
    (ap (λ (xs : List ℕ). b ∷ xs) (escaped_at bytes text at (omega arith) here (λ k h. before (suc k) (omega arith))))

-- a slice to the end
rest_of : (text : List ℕ) (n : ℕ) → take (length text - n) (drop n text) ≡ drop n text
rest_of text n = take_all (length text - n) (drop n text) (omega (arith, length-drop n text))

-- The first byte that gets a backslash divides the text, as the code finds this byte and slices the text after it.
pub escaped_first : (bytes text marks : List ℕ) (at : ℕ)
    → ((b : ℕ) → is_one_of marks b ≡ is_one_of bytes b) → IsRunAt (λ b. not (is_one_of marks b)) text 0 at → at < length text
    → escaped bytes text
    ≡ take at text ++ backslash ∷ get_or text at 0 ∷ escaped bytes (take (length text - (at + 1)) (drop (at + 1) text))
escaped_first bytes text marks at same run within = grind (arith, not-true, not-false, rest_of, add-one, escaped_at)

-- if no byte is found, the text stays
pub escaped_none : (bytes text marks : List ℕ) (at : ℕ)
    → ((b : ℕ) → is_one_of marks b ≡ is_one_of bytes b) → IsRunAt (λ b. not (is_one_of marks b)) text 0 at → at ≡ length text
    → escaped bytes text ≡ text
escaped_none bytes text marks at same run all = grind (arith, not-true, escaped_same)

-- the length of a number that lies between two powers of ten
pub length_decimal : (n k : ℕ)
    → 10 ^ k ≤ n → n < 10 * 10 ^ k → n < 2 ^ 64 → length (decimal n) ≡ k + 1
length_decimal n zero low high fits = ap length (decimal_digit n high)
length_decimal n (suc k) low high fits =
    let power : 10 ^ suc k ≡ 10 ^ k * 10 = pow-suc 10 k in
    let positive : 0 < 10 ^ k = omega (arith, one-le-pow k 10 (omega arith)) in
    let step : length (decimal n) ≡ length (decimal (n / 10)) + 1 =
    ap length (decimal_step n (omega arith) fits) ∙ length-append _ _ in
    omega (arith, step, length_decimal (n / 10) k (omega arith) (omega arith) (omega arith))

-- the length of a digit
pub length_digit : (n : ℕ) → n < 10 → length (decimal n) ≡ 1
length_digit n small = ap length (decimal_digit n small)

-- the lengths of a digit and of longer numbers
pub ruleset lengths_of_decimals = (length_decimal, length_digit)
