-- What std reads as a number without a sign is what a word of digits writes.
use Rattle.std.proofs.Common.{◌≡◌, ◌≢◌, ℕ, ◌^◌, ◌<◌, Bool, true, false, ◌&&◌, nat_lt, nat_eq, List, [], ◌∷◌, length, get_or}
use Rattle.std.proofs.Common.{sym, ◌∙◌, ap, Some, None, Result, Ok, Err, arith}
use Rattle.std.specs.Prelude.{if◌then◌else◌}
use Rattle.std.specs.List.{starts_with}
use Rattle.std.specs.Result.{OkIff, result_ok}
use Rattle.std.specs.Str.{all_ascii_digits}
use Rattle.std.specs.Str.Parse.{ParsesUnsigned, digits_value}
use Rattle.std.proofs.lemmas.Bool.Decides.{nat_tests}
use Rattle.std.proofs.lemmas.Str.Parse.{numerals_by_value, parse_plain, tells_all_ascii_digits}
use Rattle.lp_words.specs.Options.{decimal}

-- a text that does not start with a plus has another first byte
pub first-no_plus : (bs : List ℕ) → starts_with nat_eq bs (43 ∷ []) ≡ false → get_or bs 0 0 ≢ 43
first-no_plus [] h e = absurd (omega arith)
first-no_plus (b ∷ bs) h e = grind (arith, nat_tests)

-- the three tests of a number, if it is one
tests-met : (n v : ℕ) (d : Bool)
    → (d ≡ true) × (0 < n) × (v < 2 ^ 64) → (if nat_lt 0 n && d && nat_lt v (2 ^ 64) then Some v else None) ≡ Some v
tests-met n v d h = grind (arith, nat_tests)

-- and if it is none
tests-unmet : (n v : ℕ) (d : Bool)
    → ¬ ((d ≡ true) × (0 < n) × (v < 2 ^ 64)) → (if nat_lt 0 n && d && nat_lt v (2 ^ 64) then Some v else None) ≡ None
tests-unmet n v d h = grind (arith, nat_tests)

-- a number, or an error, that is exactly as those tests say
decimal-decided : {E : Type 0} (bs : List ℕ) (r : Result ℕ E)
    → OkIff r ((all_ascii_digits bs ≡ true) × (0 < length bs) × (digits_value 10 bs < 2 ^ 64)) (digits_value 10 bs)
    → result_ok r ≡ decimal bs
decimal-decided bs (Ok n) h = ap Some h.1 ∙ sym (tests-met (length bs) (digits_value 10 bs) (all_ascii_digits bs) h.0)
decimal-decided bs (Err e) h = sym (tests-unmet (length bs) (digits_value 10 bs) (all_ascii_digits bs) h)

-- what `parse` reads of a word without a plus is the number that it writes
pub parsed-decimal : {E : Type 0} (bs : List ℕ) (r : Result ℕ E)
    → ParsesUnsigned 64 10 bs r → get_or bs 0 0 ≢ 43 → result_ok r ≡ decimal bs
parsed-decimal bs r parses no_plus =
    decimal-decided bs r (parse_plain (numerals_by_value _ tells_all_ascii_digits) 64 bs r parses no_plus)
