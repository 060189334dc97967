-- Numbers at the start of a text.
use Rattle.std.proofs.Common.{◌≡◌, ◌≢◌, ℕ, zero, suc, ◌+◌, ◌-◌, ◌^◌, ◌<◌, ◌≤◌, List, [], ◌∷◌, length, take, drop, get_or, Bool, slice_index}
use Rattle.std.proofs.Common.{true, false, refl, ap, subst, arith, inl, inr, add-zero, zero-add, one-add, ◌==◌, ◌&&◌, not, if◌then◌else◌}
use Rattle.std.proofs.Common.{IsUtf8, IsCharBoundary, ℤ, FitsSigned, w64, eq-eqb, ne_eqb, leb-true, ltb-true, lt-ltb, le-ltb}
use Rattle.std.proofs.Common.{le-leb, drop-drop, get_or-drop, length-drop, length-take, length-take-le}
use Rattle.std.specs.{Char.is_ascii_digit, Str.Parse.AllDigits, Str.Parse.IsNumeral, Str.Parse.digits_value, Str.Parse.signed_digits_value}
use Rattle.std.proofs.lemmas.{Bool.cases_Bool, Bool.cases_lt, Bool.and_parts, Bool.eqb-false, Bool.and_from, List.drop_more}
use Rattle.std.proofs.lemmas.{List.get_or_past, List.Sums.prefix_len_passes, List.Sums.prefix_len-le-length, Grind.common_steps}
use Rattle.std.proofs.lemmas.{Bool.Decides.nat_tests, Str.IsCharBoundary-after_ascii, Str.IsCharBoundary-start, Str.digit_value_digit}
use Rattle.lp_format.specs.format.{Value, digits_len, integer, integer_at, integer_len, side_of, fits_i64, boolean, boolean_at, unsigned}
use Rattle.lp_format.specs.format.{unsigned_at, word_len, Reading, Text, ◌otherwise◌, above, miss, fatal, reads, integer_value_invalid}
use Rattle.lp_format.specs.format.{uinteger_value_invalid, letter_i, letter_u}

-- a byte that passes `is_ascii_digit` is a digit
pub digit_range : (b : ℕ) → is_ascii_digit b ≡ true → (48 ≤ b) × (b ≤ 57)
digit_range b h = grind (arith, common_steps)

-- the bytes that `digits_len` counts are digits
pub all_digits : (text : List ℕ) → AllDigits 10 (take (digits_len text) text)
all_digits [] = tt
all_digits (b ∷ text) =
    elim (cases_Bool (is_ascii_digit b)) [
      | inl yes_digit ↦ rw (yes_digit, one-add) (omega (arith, digit_range, digit_value_digit), all_digits text)
      | inr other ↦ rw other tt
    ]

-- a number that passes `fits_i64` fits an i64
pub fits_from_test : (z : ℤ) → fits_i64 z ≡ true → FitsSigned w64 z
fits_from_test z h = grind (arith, ltb-true, leb-true, and_parts)

-- a number that fits an i64 passes `fits_i64`
pub test_from_fits : (z : ℤ) → FitsSigned w64 z → fits_i64 z ≡ true
test_from_fits z h = grind (arith, lt-ltb, and_from, le-leb)

-- a UTF-8 text can be cut after a sign and one or more digits
pub digits_boundary : (text : List ℕ) (sign d : ℕ) → IsUtf8 text → d ≡ digits_len (drop sign text) → 0 < d → IsCharBoundary text (sign + d)
digits_boundary text sign d utf8 e some =
    let last : is_ascii_digit (get_or (drop sign text) (d - 1) 0) ≡ true = grind (arith, prefix_len_passes) in
    let range = digit_range (get_or text (sign + (d - 1)) 0) (rw (← get_or-drop sign text (d - 1) 0) last) in
    let within : d ≤ length text - sign = omega (arith, prefix_len-le-length is_ascii_digit (drop sign text), length-drop sign text) in
    let next : sign + d ≡ sign + (d - 1) + 1 = omega arith in
    rw next (IsCharBoundary-after_ascii text (sign + (d - 1)) utf8 (omega arith) (omega arith))

-- a UTF-8 text can be cut after the digits at its start, also if there are none
pub digits_end : (text : List ℕ) (d : ℕ) → IsUtf8 text → d ≡ digits_len text → IsCharBoundary text d
digits_end text zero utf8 e = IsCharBoundary-start text utf8
digits_end text (suc d) utf8 e = subst (IsCharBoundary text) (zero-add (suc d)) (digits_boundary text 0 (suc d) utf8 e (omega arith))

-- a UTF-8 text can be cut after a sign and digits, and at its start if no digit follows the sign
pub negative_end : (text : List ℕ) (r : ℕ) → IsUtf8 text
    → r ≡ (if digits_len (drop 1 text) == 0 then 0 else 1 + digits_len (drop 1 text)) → IsCharBoundary text r
negative_end text r utf8 e =
    elim (cases_Bool (digits_len (drop 1 text) == 0)) [
      | inl none ↦ rw (e, none) (IsCharBoundary-start text utf8)
      | inr some ↦ rw (e, some)
          (digits_boundary text 1 (digits_len (drop 1 text)) utf8 refl
          (omega (arith, eqb-false (digits_len (drop 1 text)) 0 some)))
    ]

-- the digits at the start of a text are a numeral, if there is at least one digit
pub front_numeral : (text : List ℕ) → digits_len text ≢ 0 → IsNumeral 10 (take (digits_len text) text)
front_numeral text some = grind (arith, length-take-le, prefix_len-le-length, all_digits)

-- a number that is not empty, with its mark after it, passes the test of `integer_at`
marked : (n b mark : ℕ) → 0 < n → b ≡ mark → (not (n == 0) && b == mark) ≡ true
marked n b mark some e = grind (arith, nat_tests)

-- digits without `i` after them are not read as an integer
pub integer_unmarked : (text : List ℕ) → slice_index text (integer_len text) ≢ letter_i → integer_at text ≡ miss
unfolding integer_at
integer_unmarked text other = grind (arith, nat_tests)

-- digits in range and `i` are read as an integer
pub integer_reads : (text : List ℕ) → 0 < integer_len text → slice_index text (integer_len text) ≡ letter_i
    → fits_i64 (signed_digits_value 10 (take (integer_len text) text)) ≡ true
    → integer_at text ≡ reads (integer (signed_digits_value 10 (take (integer_len text) text))) (drop (integer_len text + 1) text)
unfolding integer_at
integer_reads text some mark fits = rw (marked (integer_len text) _ letter_i some mark, fits) refl

-- digits out of range and `i` are fatal
pub integer_overflows : (text : List ℕ) → 0 < integer_len text → slice_index text (integer_len text) ≡ letter_i
    → fits_i64 (signed_digits_value 10 (take (integer_len text) text)) ≡ false
    → integer_at text ≡ fatal (integer_value_invalid (side_of (take (integer_len text) text)) (take (integer_len text) text))
unfolding integer_at
integer_overflows text some mark fits = rw (marked (integer_len text) _ letter_i some mark, fits) refl

-- the byte at a place and the text after it, by the text from this place on
pub byte_at_drop : (text rest : List ℕ) (n b : ℕ) → drop n text ≡ b ∷ rest → (slice_index text n ≡ b) × (drop (n + 1) text ≡ rest)
byte_at_drop text rest n b e =
    let at = ap (λ (xs : List ℕ). get_or xs 0 0) e in
    let after = ap (λ (xs : List ℕ). drop 1 xs) e in
    (rw (get_or-drop n text 0 0, add-zero n) at at, rw (drop-drop 1 n text) at after)

-- a place whose byte is not 0 is in the text
in_text : (text : List ℕ) (n b : ℕ) → slice_index text n ≡ suc b → n < length text
in_text text n b e = grind (arith, cases_lt, get_or_past)

-- the text from a place on is the byte at this place and the text after it, if this byte is not 0
pub after_byte : (text : List ℕ) (n b : ℕ) → slice_index text n ≡ suc b → drop n text ≡ suc b ∷ drop (n + 1) text
after_byte text n b e = rw (drop_more text n 0 (in_text text n b e), e) refl

-- a number that fits an i64, with `i` after it, is read as an integer
pub integer_parsed : (text number rest : List ℕ) (z : ℤ) → number ≡ take (integer_len text) text → drop (integer_len text) text ≡ letter_i ∷ rest
    → 0 < length number → FitsSigned w64 (signed_digits_value 10 number) → z ≡ signed_digits_value 10 number
    → integer_at text ≡ reads (integer z) rest
integer_parsed text number rest z e marked some fits same = grind (arith, byte_at_drop, marked, length-take, integer_reads, test_from_fits)

-- if `i` follows an integer, no other case is tried
pub integer_decides : (text : List ℕ) (other : Reading (Value Text)) → 0 < integer_len text → slice_index text (integer_len text) ≡ letter_i
    → (integer_at text otherwise other) ≡ integer_at text
unfolding integer_at
integer_decides text other some mark = grind (arith, marked, cases_Bool)

-- a UTF-8 text can be cut after an ASCII byte that is not 0
pub letter_boundary : (text : List ℕ) (n b : ℕ) → IsUtf8 text → slice_index text n ≡ suc b → suc b < 128 → IsCharBoundary text (n + 1)
letter_boundary text n b utf8 e small = IsCharBoundary-after_ascii text n utf8 (in_text text n b e) (omega (arith, e))

-- digits in range and `u` are read as an unsigned integer
pub unsigned_reads : (text : List ℕ) → 0 < digits_len text → slice_index text (digits_len text) ≡ letter_u
    → digits_value 10 (take (digits_len text) text) < 2 ^ 64
    → unsigned_at text ≡ reads (unsigned (digits_value 10 (take (digits_len text) text))) (drop (digits_len text + 1) text)
unfolding unsigned_at
unsigned_reads text some mark small = rw (marked (digits_len text) _ letter_u some mark, lt-ltb _ (2 ^ 64) small) refl

-- digits out of range and `u` are fatal
pub unsigned_overflows : (text : List ℕ) → 0 < digits_len text → slice_index text (digits_len text) ≡ letter_u
    → 2 ^ 64 ≤ digits_value 10 (take (digits_len text) text)
    → unsigned_at text ≡ fatal (uinteger_value_invalid above (take (digits_len text) text))
unfolding unsigned_at
unsigned_overflows text some mark large = rw (marked (digits_len text) _ letter_u some mark, le-ltb _ (2 ^ 64) large) refl

-- no Boolean is read if none of its words is at the start of the text
pub boolean_misses : (b : Bool) (words : List (List ℕ)) (text : List ℕ) → word_len words text ≡ 0 → boolean_at b words text ≡ miss
unfolding boolean_at
boolean_misses b words text none = rw (eq-eqb (word_len words text) 0 none) refl

-- the longest word at the start of a text is read as its Boolean
pub boolean_reads : (b : Bool) (words : List (List ℕ)) (text : List ℕ) (n : ℕ) → word_len words text ≡ n → 0 < n
    → boolean_at b words text ≡ reads (boolean b) (drop n text)
unfolding boolean_at
boolean_reads b words text n is some = rw (is, ne_eqb n 0 (λ e. absurd (omega arith))) refl
