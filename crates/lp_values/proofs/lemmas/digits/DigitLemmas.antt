-- Digits at the start of a text, by lanes and by groups; the window of a table that moves lanes to the end.
use Rattle.std.proofs.Common.{◌≡◌, ◌∙◌, ℕ, suc, ◌+◌, ◌-◌, ◌*◌, ◌^◌, ◌%◌, ◌<◌, ◌≤◌, Bool, true, false, eqb, List, [], ◌∷◌, map, length}
use Rattle.std.proofs.Common.{take, drop, get_or, refl, sym, ap, arith, zero, ◌++◌, replicate, ap₂, subst, ◌||◌, w8}
use Rattle.std.proofs.Common.{ne_eqb, length-take-le, take-append-drop, length-drop, take-take, take_all, mul_assoc, bytes_eq}
use Rattle.std.proofs.Common.{add-zero}
use Rattle.std.proofs.Math.Nat.{pow-le-pow_right, pow-succ'}
use Rattle.std.specs.Int.Digits.{AllBelowBase, number_from_digits, number_from_digits_after}
use Rattle.std.specs.{List.prefix_len, List.range_with_len, Char.is_ascii_digit, Char.digit_value, Str.Parse.AllDigits}
use Rattle.std.specs.{Str.Parse.digits_value, Str.Parse.digits_value_after, Simd.Lanes.dots, Simd.Lanes.products}
use Rattle.std.proofs.lemmas.Simd.{zip2_splat, Each1-from_get_or, SwzOk-from_Each1, length-chunk}
use Rattle.std.proofs.lemmas.Simd.{swz_l, SwzOk, pick_l-range_with_len, Each1-chunk}
use Rattle.std.proofs.lemmas.Int.Digits.{digits_value-lt, all_below_base_from_digits, digits_value_is, number_lt}
use Rattle.std.proofs.lemmas.{Bool.agree_below_at, Grind.common_steps, List.take-map, List.map-append, List.get_or_past, List.take_rest}
use Rattle.std.proofs.lemmas.{List.Folds.prefix_len-append, Str.Parse.digit_from_value, Str.digit_value_digit, Slice.Eq.bytes_eq-Decides}
use lib.Lanes.{zip2, Each1, chunk}
use Rattle.lp_format.specs.format.{digits_len, newline}
use lib.Dec.{T, ltb}
use mir.Val.{zeroes}
use Rattle.lp_scan.proofs.lemmas.lanes.LaneLemmas.{looked_up}

-- if the first `n` bytes of a text are not all digits, the digits at their start are the digits at the start of the text
pub digits_within : (text : List ℕ) (n : ℕ) → n ≤ length text → digits_len (take n text) < n → digits_len (take n text) ≡ digits_len text
digits_within text n fits less =
    let other : eqb (prefix_len is_ascii_digit (take n text)) (length (take n text)) ≡ false = ne_eqb _ _
    (λ e. absurd (omega (arith, e, (length-take-le n text fits)))) in
    let parts = prefix_len-append is_ascii_digit (take n text) (drop n text) in
    sym (ap digits_len (sym (take-append-drop n text)) ∙ parts ∙ rw other refl)

-- a number with digits after it is no less than the number
pub after_at_least : (n : ℕ) (ds : List ℕ) → n ≤ digits_value_after 10 n ds
after_at_least n [] = omega arith
after_at_least n (d ∷ ds) = omega (arith, after_at_least (n * 10 + digit_value d) ds)

-- a number before digits is multiplied by 10 for each of the digits
pub number_before : (m k : ℕ) (ds : List ℕ) → digits_value_after 10 (m + k) ds ≡ m * 10 ^ length ds + digits_value_after 10 k ds
number_before m k [] = omega arith
number_before m k (d ∷ ds) = grind (arith, mul_assoc, pow-succ', number_before (m * 10) (k * 10 + digit_value d) ds)

-- a number with digits after it is the number, multiplied by 10 for each digit, and the number of the digits
pub digits_after : (n : ℕ) (ds : List ℕ) → digits_value_after 10 n ds ≡ n * 10 ^ length ds + digits_value 10 ds
digits_after n ds = rw add-zero at (number_before n 0 ds)

-- the number `n` with four digits after it
abbrev pub with_four : ℕ → List ℕ → ℕ
with_four n ds = n * 10000 + (((get_or ds 0 0 - 48) * 10 + (get_or ds 1 0 - 48)) * 100 + ((get_or ds 2 0 - 48) * 10 + (get_or ds 3 0 - 48)))

-- the digits after the first four go on after the number with these four; by their codes, four zeros add up to 53328
pub four_more : (n : ℕ) (ds : List ℕ) → 4 ≤ length ds → AllDigits 10 ds
    → AllDigits 10 (drop 4 ds) × (digits_value_after 10 (with_four n ds) (drop 4 ds) ≡ digits_value_after 10 n ds)
    × (n * 10000 + (get_or ds 0 0 * 1000 + get_or ds 1 0 * 100 + get_or ds 2 0 * 10 + get_or ds 3 0 - 53328) ≡ with_four n ds)
four_more n [] some digits = absurd (omega arith)
four_more n (a ∷ []) some digits = absurd (omega arith)
four_more n (a ∷ (b ∷ [])) some digits = absurd (omega arith)
four_more n (a ∷ (b ∷ (c ∷ []))) some digits = absurd (omega arith)
four_more n (a ∷ (b ∷ (c ∷ (d ∷ ds)))) some (va, (vb, (vc, (vd, rest)))) = grind (arith, digit_from_value, digit_value_digit)

-- a number with four digits after it is no greater than the number with all digits after it
pub four_fit : (n : ℕ) (ds : List ℕ) → 4 ≤ length ds → AllDigits 10 ds → with_four n ds ≤ digits_value_after 10 n ds
four_fit n ds some digits = omega (arith, (four_more n ds some digits).1, after_at_least (with_four n ds) (drop 4 ds))

-- a number of at most 19 digits fits a u64
pub few_fit : (ds : List ℕ) → AllDigits 10 ds → length ds ≤ 19 → digits_value 10 ds < 2 ^ 64
few_fit ds digits few = grind (arith, digits_value-lt, pow-le-pow_right)

-- the weights of the first digit of each four, divided by eight
abbrev pub firsts : ℕ → List ℕ
firsts zero = []
firsts (suc k) = 125 ∷ (0 ∷ (0 ∷ (0 ∷ firsts k)))

-- the weights of the other three digits of each four
abbrev pub others : ℕ → List ℕ
others zero = []
others (suc k) = 0 ∷ (100 ∷ (newline ∷ (1 ∷ others k)))

-- the numbers of each four digits
abbrev pub groups : List ℕ → List ℕ
groups [] = []
groups (a ∷ []) = []
groups (a ∷ (b ∷ [])) = []
groups (a ∷ (b ∷ (c ∷ []))) = []
groups (a ∷ (b ∷ (c ∷ (d ∷ ds)))) = (a * 1000 + b * 100 + c * 10 + d) ∷ groups ds

-- the sums over `4 * k` digits: they fit their lanes, are the numbers of each four digits, and make the number of all digits
pub record AreGroups (k : ℕ) (ds : List ℕ) : Type 0 where
  pub firsts_fit : Each1 (λ p. p ≤ 16320) (products ds (firsts k))
  pub others_fit : Each1 (λ p. p ≤ 16320) (products ds (others k))
  pub sums : zip2 {C = ℕ} (λ a b. (a + b) % 2 ^ 32) (zip2 {C = ℕ} (λ a b. (a * 2 ^ b) % 2 ^ 32) (dots ds (firsts k)) (replicate k 3))
      (dots ds (others k)) ≡ groups ds
  pub number : (n : ℕ) → number_from_digits_after 10 n ds ≡ number_from_digits_after 10000 n (groups ds)
  pub below : AllBelowBase 10000 (groups ds)
  pub size : length (groups ds) ≡ k

-- the two sums over four digits add up to their number
four_sum : (a b c d : ℕ) → a < 10 → b < 10 → c < 10 → d < 10
    → ((a * 125 + b * 0 + (c * 0 + d * 0)) * 2 ^ 3 % 2 ^ 32 + (a * 0 + b * 100 + (c * 10 + d * 1))) % 2 ^ 32
    ≡ a * 1000 + b * 100 + c * 10 + d
four_sum a b c d ha hb hc hd = omega (arith, ha, hb, hc, hd)

-- the sums over digits are the numbers of each four of them
pub are_groups : (k : ℕ) (ds : List ℕ) → length ds ≡ 4 * k → AllBelowBase 10 ds → AreGroups k ds
are_groups zero [] e small = record { firsts_fit = tt; others_fit = tt; sums = refl; number = λ n. refl; below = tt; size = refl }
are_groups zero (a ∷ ds) e small = absurd (omega (arith, e))
are_groups (suc k) [] e small = absurd (omega (arith, e))
are_groups (suc k) (a ∷ []) e small = absurd (omega (arith, e))
are_groups (suc k) (a ∷ (b ∷ [])) e small = absurd (omega (arith, e))
are_groups (suc k) (a ∷ (b ∷ (c ∷ []))) e small = absurd (omega (arith, e))
are_groups (suc k) (a ∷ (b ∷ (c ∷ (d ∷ ds)))) e (ha, (hb, (hc, (hd, small)))) =
    grind (arith, four_sum, (are_groups k ds (omega (arith, e)) small))

-- four numbers below 10000, taken two by two, make the number with these digits to the base 10000
two_and_two : (gs : List ℕ) → length gs ≡ 4
    → (get_or gs 0 0 * 10000 + get_or gs 1 0) * 100000000 + (get_or gs 2 0 * 10000 + get_or gs 3 0) ≡ number_from_digits 10000 gs
two_and_two [] e = absurd (omega (arith, e))
two_and_two (a ∷ []) e = absurd (omega (arith, e))
two_and_two (a ∷ (b ∷ [])) e = absurd (omega (arith, e))
two_and_two (a ∷ (b ∷ (c ∷ []))) e = absurd (omega (arith, e))
two_and_two (a ∷ (b ∷ (c ∷ (d ∷ [])))) e = omega arith
two_and_two (a ∷ (b ∷ (c ∷ (d ∷ (f ∷ gs))))) e = absurd (omega (arith, e))

-- the number of 16 digits is made of the sums over each four, and is below 10 to the power of 16
pub by_groups : (ds : List ℕ) → length ds ≡ 16 → AllBelowBase 10 ds
    → (let sums = zip2 {C = ℕ} (λ a b. (a + b) % 2 ^ 32) (zip2 {C = ℕ} (λ a b. (a * 2 ^ b) % 2 ^ 32) (dots ds (firsts 4)) (replicate 4 3))
    (dots ds (others 4)) in
    ((get_or sums 0 0 * 10000 + get_or sums 1 0) * 100000000 + (get_or sums 2 0 * 10000 + get_or sums 3 0) ≡ number_from_digits 10 ds)
    × (number_from_digits 10 ds < 10 ^ 16))
by_groups ds whole small = let are = are_groups 4 ds whole small in rw are.sums (grind (arith, number_lt, two_and_two))

-- zeros before digits do not change their number
zeros_before : (k : ℕ) (ds : List ℕ) → number_from_digits 10 (replicate k 0 ++ ds) ≡ number_from_digits 10 ds
zeros_before zero ds = refl
zeros_before (suc k) ds = zeros_before k ds

-- zeros before digits are digits
zeros_below : (k : ℕ) (ds : List ℕ) → AllBelowBase 10 ds → AllBelowBase 10 (replicate k 0 ++ ds)
zeros_below zero ds small = small
zeros_below (suc k) ds small = (omega arith, zeros_below k ds small)

-- the lanes of digits, moved to the end after zeros, are digits
pub moved_below : (k n : ℕ) (bytes lanes moved : List ℕ) → moved ≡ replicate k 0 ++ take n lanes
    → take n lanes ≡ map digit_value (take n bytes) → AllDigits 10 (take n bytes) → AllBelowBase 10 moved
moved_below k n bytes lanes moved is are digits = grind (arith, all_below_base_from_digits, replicate, zeros_below)

-- the number of the lanes that were moved to the end is the number that the bytes write
pub moved_number : (k n : ℕ) (bytes lanes moved : List ℕ) → moved ≡ replicate k 0 ++ take n lanes
    → take n lanes ≡ map digit_value (take n bytes) → number_from_digits 10 moved ≡ digits_value 10 (take n bytes)
moved_number k n bytes lanes moved is are = grind (arith, replicate, zeros_before, digits_value_is)

-- the byte of a digit minus the code of zero is the value of the digit
less_zero : (ds : List ℕ) → AllDigits 10 ds → map (λ b. (b + (2 ^ 8 - 48)) % 2 ^ 8) ds ≡ map digit_value ds
less_zero [] digits = refl
less_zero (d ∷ ds) (small, digits) = grind (arith, digit_from_value, digit_value_digit, less_zero ds digits)

-- the lanes of bytes minus the code of zero are the values of the digits, as far as the bytes are digits
pub lanes_are_digits : (n : ℕ) (bytes : List ℕ) → 16 ≤ length bytes → n ≤ 16 → AllDigits 10 (take n bytes)
    → take n (zip2 {C = ℕ} (λ a b. (a + (2 ^ 8 - b)) % 2 ^ 8) (take 16 bytes) (replicate 16 48)) ≡ map digit_value (take n bytes)
lanes_are_digits n bytes room few digits =
    let less : ℕ → ℕ = λ b. (b + (2 ^ 8 - 48)) % 2 ^ 8 in
    ap (take n) (zip2_splat (λ (a b : ℕ). (a + (2 ^ 8 - b)) % 2 ^ 8) (take 16 bytes) 16 48 (length-take-le 16 bytes room))
    ∙ take-map less n (take 16 bytes) ∙ ap (map less) (take-take n 16 bytes few) ∙ less_zero (take n bytes) digits

-- the first digits and the rest of them are digits
pub digits_parts : (n : ℕ) (ds : List ℕ) → AllDigits 10 ds → AllDigits 10 (take n ds) × AllDigits 10 (drop n ds)
digits_parts zero ds digits = (tt, digits)
digits_parts (suc n) [] digits = (tt, tt)
digits_parts (suc n) (d ∷ ds) (small, digits) = let parts = digits_parts n ds digits in ((small, parts.0), parts.1)

-- the lanes of the last 16 digits are digits, and their number is the number of these 16 digits
pub whole_lanes : (ds bytes lanes : List ℕ) → bytes ≡ drop (length ds - 16) ds → 16 < length ds → length lanes ≡ 16 → AllDigits 10 ds
    → ((n : ℕ) → n ≤ 16 → AllDigits 10 (take n bytes) → take n lanes ≡ map digit_value (take n bytes))
    → AllBelowBase 10 lanes × (number_from_digits 10 lanes ≡ digits_value 10 (drop (length ds - 16) ds))
whole_lanes ds bytes lanes back least wide digits are =
    let long : length bytes ≡ 16 = omega (arith, ap length back, length-drop (length ds - 16) ds) in
    let all = take_all 16 bytes (omega (arith, long)) in
    let every : AllDigits 10 (take 16 bytes) = rw (all, back) (digits_parts (length ds - 16) ds digits).1 in
    let is = sym (take_all 16 lanes (omega (arith, wide))) in
    let same = are 16 (omega arith) every in
    (moved_below 0 16 bytes lanes lanes is same every, moved_number 0 16 bytes lanes lanes is same ∙ ap (digits_value 10) (all ∙ back))

-- the number of two lists of digits is the number of the second, going on after the number of the first
digits_append : (n : ℕ) (xs ys : List ℕ) → digits_value_after 10 n (xs ++ ys) ≡ digits_value_after 10 (digits_value_after 10 n xs) ys
digits_append n [] ys = refl
digits_append n (x ∷ xs) ys = digits_append (n * 10 + digit_value x) xs ys

-- a number is made of its last 16 digits and the digits before them
pub by_last : (n : ℕ) (ds : List ℕ) → length ds ≡ n + 16
    → digits_value 10 (take n ds) * 10 ^ 16 + digits_value 10 (drop n ds) ≡ digits_value 10 ds
by_last n ds long =
    let first = digits_value 10 (take n ds) in
    let size : length (drop n ds) ≡ 16 = omega (arith, length-drop n ds, long) in
    sym (
    ap (digits_value 10) (sym (take-append-drop n ds)) ∙ digits_append 0 (take n ds) (drop n ds)
    ∙ ap (λ x. digits_value_after 10 x (drop n ds)) (omega arith) ∙ number_before first 0 (drop n ds)
    ∙ ap (λ x. first * 10 ^ x + digits_value 10 (drop n ds)) size)

-- a table: 16 entries that make a lane 0, and then the places of the 16 lanes
abbrev pub moves : List ℕ
moves = replicate 16 255 ++ range_with_len 0 16

-- the window of `n`: 16 entries of the table from the place `n` on
abbrev pub window : ℕ → List ℕ
window n = chunk 0 16 (chunk n (32 - n) moves)

-- a window has an entry for each lane
window_len : (n : ℕ) → n ≤ 16 → length (window n) ≡ 16
window_len n fits = length-chunk 0 16 (chunk n (32 - n) moves) (omega (arith, length-chunk n (32 - n) moves (omega arith)))

-- a window has 255 for each lane before the last `n`, and then the first `n` places
window_is : (n : ℕ) → n ≤ 16 → window n ≡ replicate (16 - n) 255 ++ range_with_len 0 n
window_is n fits =
    let same = agree_below_at (λ k. bytes_eq (window k) (replicate (16 - k) 255 ++ range_with_len 0 k)) (λ k. true) 17 n refl (omega arith) in
    grind (arith, same, bytes_eq-Decides)

-- `swizzle_dyn` accepts each entry of a window
pub window_fits : (n : ℕ) → n ≤ 16 → SwzOk w8 16 16 0 (window n)
window_fits n fits =
    let taken : ℕ → Bool = λ j. zeroes 16 w8 j || ltb j 16 in
    let all = Each1-from_get_or (λ j. T (taken j)) moves 0
    (λ i lt. subst T (sym (agree_below_at (λ k. taken (get_or moves k 0)) (λ k. true) 32 i refl lt)) tt) in
    SwzOk-from_Each1 w8 16 1 16 0 (window n) refl (omega (arith, window_len n fits))
    (Each1-chunk (λ j. T (taken j)) 0 16 (chunk n (32 - n) moves) (Each1-chunk (λ j. T (taken j)) n (32 - n) moves all))

-- looking up each of many equal places gives many equal bytes
splat_at : (look : ℕ → ℕ) (n x : ℕ) → map look (replicate n x) ≡ replicate n (look x)
splat_at look zero x = refl
splat_at look (suc n) x = ap (λ l. look x ∷ l) (splat_at look n x)

-- the window of `n` moves the first `n` lanes to the end, after zeros
pub window_moves : (n : ℕ) (lanes : List ℕ) → n ≤ 16 → length lanes ≡ 16
    → swz_l w8 16 lanes 0 (window n) ≡ replicate (16 - n) 0 ++ take n lanes
window_moves n lanes fits long =
    let look : ℕ → ℕ = λ j. get_or lanes j 0 in
    let none : get_or lanes 255 0 ≡ 0 = get_or_past lanes 255 0 (omega arith) in
    let back : map look (range_with_len 0 n) ≡ take n lanes = pick_l-range_with_len 0 lanes 0 n (omega arith) in
    looked_up lanes (omega arith) (window n) 0 (omega (arith, window_len n fits))
    ∙ ap (map look) (window_is n fits) ∙ map-append look (replicate (16 - n) 255) (range_with_len 0 n)
    ∙ ap₂ (λ (xs ys : List ℕ). xs ++ ys) (splat_at look (16 - n) 255 ∙ ap (replicate (16 - n)) none) back

-- rules for a number by its digits, four at a time
pub ruleset four_steps = (common_steps, take_rest, few_fit, four_fit, four_more)

-- rules for the number of 16 lanes by the sums over each four
pub ruleset lanes_steps = (common_steps, by_groups)

-- rules for the window of the table that moves lanes
pub ruleset window_steps = (window_fits, window_moves)

-- rules for the number of the lanes that were moved to the end
pub ruleset moved_steps = (common_steps, moved_below, moved_number)

-- rules for a number by its first and its last digits
pub ruleset last_steps = (common_steps, digits_parts, few_fit, by_last)
