-- Each literal that the reader in code finds is the literal of the definition.
use Rattle.std.proofs.Common.{◌≡◌, ◌≢◌, ◌<◌, ◌+◌, ◌^◌, ℕ, ℤ, List, [], ◌∷◌, length, take, drop, Bool, true, false, ◌==◌, codes, refl, sym, ap, ◌∙◌, arith, FitsSigned, w64, slice_index, if◌then◌else◌, nat_lt, lt-ltb, ne_eqb, eqb-true, ◌&&◌, not, to_z-of_z, length-take, inl, inr, ltb-true}
use Rattle.std.proofs.lemmas.{Bool.cases_Bool, Bool.Decides.nat_tests, Grind.common_steps}
use Rattle.std.specs.Str.Parse.{IsNumeral, digits_value, signed_digits_value, without_leading_sign, without_leading_plus}
use Rattle.lp_format.specs.format.{IsSigned, byte, digits_len, exponent_len, fits_i64, integer, integer_at, integer_len, letter_i, letter_u, minus, miss}
use Rattle.lp_format.specs.format.{reads, unsigned, unsigned_at}
use Rattle.lp_format.proofs.lemmas.literals.FloatLemmas.{signed_front}
use Rattle.lp_format.proofs.lemmas.values.ValueLemmas.{byte_at_drop, front_numeral, test_from_fits, fits_from_test}
use Rattle.lp_portable.specs.format.Portable.{begins_with}
use Rattle.lp_influx.specs.format.InfluxFields.{ended, is_literal_end, pointed_len}

-- a byte that is read is the first
pub byte_first : (b x : ℕ) (text rest : List ℕ) → byte b text ≡ reads x rest → text ≡ b ∷ rest
byte_first b x text rest e = grind (arith, cases_Bool, eqb-true)

-- a byte that is not there is at no place
byte_none : (b : ℕ) (text : List ℕ) → byte b text ≡ miss → begins_with b text ≡ false
byte_none b [] e = refl
byte_none b (c ∷ text) e = grind (arith, cases_Bool)

-- how long a number with a point is, by its parts
pub pointed_is : (text after : List ℕ) (sign whole fraction power : ℕ) → sign ≡ (if slice_index text 0 == minus then 1 else 0)
    → whole ≡ digits_len (drop sign text) → byte 46 (drop (sign + whole) text) ≡ reads 46 after → fraction ≡ digits_len after → 0 < whole + fraction
    → power ≡ exponent_len (drop (sign + whole + 1 + fraction) text) → pointed_len text ≡ sign + whole + 1 + fraction + power
pointed_is text after sign whole fraction power s w dot f some p =
    let first = byte_first 46 46 (drop (sign + whole) text) after dot in
    let rest = (byte_at_drop text after (sign + whole) 46 first).1 in
    let any : nat_lt 0 (whole + fraction) ≡ true = lt-ltb 0 (whole + fraction) some in
    rw (← s, ← w, first, rest, ← f, any) (ap (λ (n : ℕ). sign + whole + 1 + fraction + n) (sym p))

-- Without a point, no number with a point is read.
pub no_point : (text : List ℕ) (sign whole : ℕ) → sign ≡ (if slice_index text 0 == minus then 1 else 0)
    → whole ≡ digits_len (drop sign text) → byte 46 (drop (sign + whole) text) ≡ miss → pointed_len text ≡ 0
no_point text sign whole s w none = rw (← s, ← w, byte_none 46 (drop (sign + whole) text) none) refl

-- With a point and no digits, no number with a point is read.
pub no_digits : (text after : List ℕ) (sign whole : ℕ) → sign ≡ (if slice_index text 0 == minus then 1 else 0)
    → whole ≡ digits_len (drop sign text) → byte 46 (drop (sign + whole) text) ≡ reads 46 after → whole + digits_len after ≡ 0 → pointed_len text ≡ 0
no_digits text after sign whole s w dot none =
    let first = byte_first 46 46 (drop (sign + whole) text) after dot in
    let rest = (byte_at_drop text after (sign + whole) 46 first).1 in
    rw (← s, ← w, first, rest, none) refl

-- a byte that is not there
unmarked : (text : List ℕ) (n mark : ℕ) → 0 < mark → byte mark (drop n text) ≡ miss → (slice_index text n == mark) ≡ false
unmarked text n mark some none = grind (arith, common_steps, nat_tests, cases_Bool)

-- an integer has its letter
pub integer_bare : (text : List ℕ) → byte letter_i (drop (integer_len text) text) ≡ miss → ended (integer_at text) ≡ miss
unfolding integer_at
integer_bare text none = rw (unmarked text (integer_len text) letter_i (omega arith) none) (grind (arith, cases_Bool))

-- Without digits, no integer is read.
pub integer_empty : (text : List ℕ) → integer_len text ≡ 0 → ended (integer_at text) ≡ miss
unfolding integer_at
integer_empty text none = rw none refl

-- With digits and the letter, the range and the byte after the letter decide whether an integer is read.
pub integer_marked : (text rest : List ℕ) → byte letter_i (drop (integer_len text) text) ≡ reads letter_i rest → 0 < integer_len text
    → ended (integer_at text)
    ≡ (if fits_i64 (signed_digits_value 10 (take (integer_len text) text)) && is_literal_end rest then reads (integer (signed_digits_value 10 (take (integer_len text) text))) rest else miss)
unfolding integer_at
integer_marked text rest mark some =
    let at = byte_at_drop text rest (integer_len text) letter_i (byte_first letter_i letter_i (drop (integer_len text) text) rest mark) in
    rw (at.0, at.1, ne_eqb (integer_len text) 0 (λ e. absurd (omega arith))) (grind (arith, cases_Bool))

-- If no end follows the letter, no integer is read.
pub integer_goes_on : (text rest : List ℕ) → byte letter_i (drop (integer_len text) text) ≡ reads letter_i rest → is_literal_end rest ≡ false
    → ended (integer_at text) ≡ miss
unfolding integer_at
integer_goes_on text rest mark on =
    let at = byte_at_drop text rest (integer_len text) letter_i (byte_first letter_i letter_i (drop (integer_len text) text) rest mark) in
    rw (at.0, at.1) (grind (arith, cases_Bool))

-- the digits of a signed number
pub signed_numeral : (number : List ℕ) → IsSigned (codes "-") number → IsNumeral 10 (without_leading_sign number)
signed_numeral [] s = absurd s
signed_numeral (b ∷ digits) s = grind (arith, common_steps, cases_Bool)

-- an integer in range
pub integer_read : (text number rest : List ℕ) (z : ℤ) → number ≡ take (integer_len text) text → byte letter_i (drop (integer_len text) text) ≡ reads letter_i rest
    → 0 < integer_len text → is_literal_end rest ≡ true → FitsSigned w64 (signed_digits_value 10 number) → z ≡ signed_digits_value 10 number
    → ended (integer_at text) ≡ reads (integer z) rest
integer_read text number rest z front mark some end fits is =
    rw (is, front) (integer_marked text rest mark some ∙ rw (test_from_fits _ (rw front at fits), end) refl)

-- If the digits are out of range, no integer is read.
pub integer_over : (text number after rest : List ℕ) (n : ℕ) → n ≡ integer_len text → number ≡ take n text → after ≡ drop n text
    → byte letter_i after ≡ reads letter_i rest → 0 < n → ¬ (IsNumeral 10 (without_leading_sign number) × FitsSigned w64 (signed_digits_value 10 number))
    → ended (integer_at text) ≡ miss
integer_over text number after rest n len front back mark some over =
    let taken : number ≡ take (integer_len text) text = rw (← len) front in
    let marked : byte letter_i (drop (integer_len text) text) ≡ reads letter_i rest = rw (← len, ← back) mark in
    let any : 0 < integer_len text = rw (← len) some in
    let numeral = signed_numeral number (rw taken (signed_front (codes "-") text any)) in
    elim (cases_Bool (fits_i64 (signed_digits_value 10 (take (integer_len text) text)))) [
      | inl fits ↦ absurd (over (numeral, rw taken (fits_from_test _ fits)))
      | inr other ↦ integer_marked text rest marked any ∙ rw other refl
    ]

-- the steps of an integer
pub ruleset integer_steps = (common_steps, integer_bare, integer_empty, integer_goes_on, integer_read, to_z-of_z, length-take)

-- an unsigned number has its letter
pub unsigned_bare : (text : List ℕ) → byte letter_u (drop (digits_len text) text) ≡ miss → ended (unsigned_at text) ≡ miss
unfolding unsigned_at
unsigned_bare text none = rw (unmarked text (digits_len text) letter_u (omega arith) none) (grind (arith, cases_Bool))

-- Without digits, no unsigned integer is read.
pub unsigned_empty : (text : List ℕ) → digits_len text ≡ 0 → ended (unsigned_at text) ≡ miss
unfolding unsigned_at
unsigned_empty text none = rw none refl

-- With digits and the letter, the range and the byte after the letter decide whether an unsigned integer is read.
unsigned_marked : (text rest : List ℕ) → byte letter_u (drop (digits_len text) text) ≡ reads letter_u rest → 0 < digits_len text
    → ended (unsigned_at text)
    ≡ (if nat_lt (digits_value 10 (take (digits_len text) text)) (2 ^ 64) && is_literal_end rest then reads (unsigned (digits_value 10 (take (digits_len text) text))) rest else miss)
unfolding unsigned_at
unsigned_marked text rest mark some =
    let at = byte_at_drop text rest (digits_len text) letter_u (byte_first letter_u letter_u (drop (digits_len text) text) rest mark) in
    rw (at.0, at.1, ne_eqb (digits_len text) 0 (λ e. absurd (omega arith))) (grind (arith, cases_Bool))

-- If no end follows the letter, no unsigned integer is read.
pub unsigned_goes_on : (text rest : List ℕ) → byte letter_u (drop (digits_len text) text) ≡ reads letter_u rest → is_literal_end rest ≡ false
    → ended (unsigned_at text) ≡ miss
unfolding unsigned_at
unsigned_goes_on text rest mark on =
    let at = byte_at_drop text rest (digits_len text) letter_u (byte_first letter_u letter_u (drop (digits_len text) text) rest mark) in
    rw (at.0, at.1) (grind (arith, cases_Bool))

-- digits have no sign
no_plus : (number : List ℕ) → IsNumeral 10 number → without_leading_plus number ≡ number
no_plus [] n = refl
no_plus (b ∷ number) n = grind (arith, common_steps, cases_Bool)

-- an unsigned number in range
pub unsigned_read : (text number rest : List ℕ) (n : ℕ) → number ≡ take (digits_len text) text → byte letter_u (drop (digits_len text) text) ≡ reads letter_u rest
    → 0 < digits_len text → is_literal_end rest ≡ true → digits_value 10 (without_leading_plus number) < 2 ^ 64 → n ≡ digits_value 10 (without_leading_plus number)
    → ended (unsigned_at text) ≡ reads (unsigned n) rest
unsigned_read text number rest n front mark some end fits is =
    let numeral = front_numeral text (λ e. absurd (omega arith)) in
    let bare : without_leading_plus number ≡ take (digits_len text) text = ap without_leading_plus front ∙ no_plus _ numeral in
    rw (is, bare) (unsigned_marked text rest mark some ∙ rw (lt-ltb _ (2 ^ 64) (rw bare at fits), end) refl)

-- If the digits are out of range, no unsigned integer is read.
pub unsigned_over : (text number after rest : List ℕ) (n : ℕ) → n ≡ digits_len text → number ≡ take n text → after ≡ drop n text
    → byte letter_u after ≡ reads letter_u rest → 0 < n → ¬ (IsNumeral 10 (without_leading_plus number) × (digits_value 10 (without_leading_plus number) < 2 ^ 64))
    → ended (unsigned_at text) ≡ miss
unsigned_over text number after rest n len front back mark some over =
    let taken : number ≡ take (digits_len text) text = rw (← len) front in
    let marked : byte letter_u (drop (digits_len text) text) ≡ reads letter_u rest = rw (← len, ← back) mark in
    let any : 0 < digits_len text = rw (← len) some in
    let numeral = front_numeral text (λ e. absurd (omega arith)) in
    let bare : without_leading_plus number ≡ take (digits_len text) text = ap without_leading_plus taken ∙ no_plus _ numeral in
    elim (cases_Bool (nat_lt (digits_value 10 (take (digits_len text) text)) (2 ^ 64))) [
      | inl fits ↦ absurd (over (rw bare (numeral, ltb-true _ (2 ^ 64) fits)))
      | inr other ↦ unsigned_marked text rest marked any ∙ rw other refl
    ]

-- the steps of an unsigned number
pub ruleset unsigned_steps = (common_steps, unsigned_bare, unsigned_empty, unsigned_goes_on, unsigned_read, length-take)
