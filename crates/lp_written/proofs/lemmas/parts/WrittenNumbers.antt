-- Numbers as the builder writes them.
use Rattle.std.proofs.Common.{◌≡◌, ◌≢◌, ℕ, ◌^◌, ◌<◌, ◌&&◌, Bool, true, false, not, List, [], ◌∷◌, ◌++◌, length, take, drop}
use Rattle.std.proofs.Common.{slice_index, get_or, refl, sym, ap, subst, ◌∙◌, arith, inl, inr, append_assoc, Option, Some, None, ◌==◌, ℤ}
use Rattle.std.proofs.Common.{pos, decimal, codes, nat_lt, neg_ℤ, MatchOption, Bor, eqb-true, ne_eqb, lt-ltb, ltb-true, take_at, drop_at}
use Rattle.std.proofs.Common.{take-append-drop}
use Rattle.std.specs.Str.Parse.{AllDigits, IsNumeral, digits_value, signed_digits_value}
use Rattle.std.specs.{Fmt.signed_decimal, Bool.then_some, Str.Pattern.FindsTextPrefix, Str.Pattern.LacksTextAt, Str.Pattern.StripsPrefix}
use Rattle.std.proofs.Math.Nat.{pow-le-pow_right}
use Rattle.lp_format.specs.format.{IsSigned, IsFloat, Value, integer, unsigned, float, string, boolean, integer_len, fits_i64, float_at}
use Rattle.lp_format.specs.format.{float_len, minus, miss, reads, IsValue, built_value, byte}
use Rattle.lp_format.specs.format.Bytes.{letter_i, letter_u, quote}
use Rattle.std.proofs.lemmas.Bool.{cases_eq, cases_lt, and_parts, eqb-false, or_parts, false≢true, not-true}
use Rattle.std.proofs.lemmas.Fmt.{decimal_is_IsNumeral, decimal-digits_value, decimal_digit, first_decimal}
use Rattle.std.proofs.lemmas.{Int.Digits.digits_value-lt, Str.Parse.digit_from_value, Str.Parse.numerals_by_value, Str.Parse.tells_digits}
use Rattle.lp_format.proofs.lemmas.literals.FloatLemmas.{float_len_float, float_misses, float_reads, signed_front, FloatFront, float_front}
use Rattle.lp_format.proofs.lemmas.read_back.IntegerReadsBack.{integer_written, unsigned_len}
use Rattle.lp_format.proofs.lemmas.values.ValueLemmas.{byte_at_drop, fits_from_test, test_from_fits}
use Rattle.lp_format.proofs.lemmas.values.ValueForms.{byte_missing}
use Rattle.lp_written.proofs.lemmas.parts.WrittenNames.{byte_left}
use Rattle.lp_written.specs.code.AsWritten.{EndsValue, IsOnlyRest, IsWrittenString, IsWrittenValue, has_extra_zero, is_written_integer}
use Rattle.lp_written.specs.code.AsWritten.{is_written_unsigned}

-- Digits without a zero before more digits are the digits that the builder writes for their number.
pub unsigned_again : (ds : List ℕ) → IsNumeral 10 ds → has_extra_zero ds ≡ false → digits_value 10 ds < 2 ^ 64 → decimal (digits_value 10 ds) ≡ ds
unsigned_again ds numeral plain fits =
    decimal-digits_value (numerals_by_value (AllDigits 10) tells_digits) ds numeral.1 numeral.0 (alone ds plain numeral.0) fits
  where
    -- a zero at the start is the only digit
    alone : (ds : List ℕ) → has_extra_zero ds ≡ false → 0 < length ds → get_or ds 0 0 ≡ 48 → length ds ≡ 1
    alone ds plain some first = grind (arith, eqb-false, or_parts)

-- A number whose first digit is no zero has no zero too many.
first_digit : (ds : List ℕ) → 48 < get_or ds 0 0 → has_extra_zero ds ≡ false
first_digit ds more = grind (arith, ne_eqb)

-- a sign before a text that begins with no zero
minus_zero : (ds : List ℕ) → 48 < get_or ds 0 0 → has_extra_zero (minus ∷ ds) ≡ false
minus_zero ds more = grind (arith, ne_eqb)

-- The digits of an integer in range have no zero too many.
pub signed_zero : (z : ℤ) → fits_i64 z ≡ true → has_extra_zero (signed_decimal z) ≡ false
signed_zero n fits = grind (arith, fits_from_test, decimal_digit, first_digit, minus_zero, first_decimal)

-- A minus sign and digits without a zero too many are the text that the builder writes for their number.
minus_again : (ds : List ℕ) → IsNumeral 10 ds → has_extra_zero (minus ∷ ds) ≡ false
    → fits_i64 (neg_ℤ (pos (digits_value 10 ds))) ≡ true → signed_decimal (neg_ℤ (pos (digits_value 10 ds))) ≡ minus ∷ ds
minus_again ds numeral plain fits =
    grind (arith, digit_from_value, or_parts, eqb-false, unsigned_again, first_digit, fits_from_test, cases_lt, decimal_digit)

-- digits without a sign have their value
plain_value : (d : ℕ) (ds : List ℕ) → IsNumeral 10 (d ∷ ds) → signed_digits_value 10 (d ∷ ds) ≡ pos (digits_value 10 (d ∷ ds))
plain_value d ds numeral = grind (arith, digit_from_value, ne_eqb)

-- An integer without a zero too many is the text that the builder writes for its number.
pub integer_again : (number : List ℕ) → IsSigned (codes "-") number → has_extra_zero number ≡ false
    → fits_i64 (signed_digits_value 10 number) ≡ true → signed_decimal (signed_digits_value 10 number) ≡ number
integer_again [] never plain fits = absurd never
integer_again (b ∷ ds) (inl signed) plain fits = grind (arith, eqb-true, false≢true, minus_again)
integer_again (b ∷ ds) (inr numeral) plain fits = grind (arith, plain_value, fits_from_test, unsigned_again)

-- an integer of less than 19 bytes fits an i64
short_fits : (number : List ℕ) → IsSigned (codes "-") number → length number < 19 → fits_i64 (signed_digits_value 10 number) ≡ true
short_fits ds never short = grind (arith, eqb-true, false≢true, plain_value, test_from_fits, pow-le-pow_right, digits_value-lt)

-- Whether the builder writes a short number in this way depends only on its zeros.
pub short_written : (number : List ℕ) → IsSigned (codes "-") number → not (has_extra_zero number) ≡ true → length number < 19
    → nat_lt (length number) 19 ≡ is_written_integer number
short_written number signed plain short = rw (plain, short_fits number signed short) (lt-ltb _ 19 short)

-- a number and its mark, at the start of a text
pub record NumberText (text number rest : List ℕ) (mark : ℕ) : Type 0 where
  pub some : 0 < integer_len text
  pub front : take (integer_len text) text ≡ number
  pub after : drop (integer_len text) text ≡ mark ∷ rest

-- A text of a number, a mark and a rest, by its parts.
number_text : (number rest : List ℕ) (mark : ℕ) → integer_len (number ++ mark ∷ rest) ≡ length number → 0 < length number
    → NumberText (number ++ mark ∷ rest) number rest mark
number_text number rest mark len some = grind (arith, take_at, drop_at)

-- The forms of a value that the builder writes at the start of a text.
pub data Shape (text rest : List ℕ) : Type 0 where
  an_integer : (z : ℤ) → fits_i64 z ≡ true → NumberText text (signed_decimal z) rest letter_i → Shape text rest
  an_unsigned : (n : ℕ) → n < 2 ^ 64 → NumberText text (decimal n) rest letter_u → Shape text rest
  a_float : (t : List ℕ) → FloatFront text t rest → Shape text rest
  a_string : integer_len text ≡ 0 → slice_index text 0 ≡ quote → IsWrittenString text rest → Shape text rest
  a_word : (b : Bool) → integer_len text ≡ 0 → text ≡ built_value (boolean b) ++ rest → Shape text rest

-- each value has its shape
shape_of : (v : Value (List ℕ)) (rest : List ℕ) → IsValue v → EndsValue rest → Shape (built_value v ++ rest) rest
shape_of (integer z) rest fits ends =
    let written = integer_written z fits in
    subst (λ xs. Shape xs rest) (sym (append_assoc (signed_decimal z) (letter_i ∷ []) rest))
    (an_integer z fits (number_text (signed_decimal z) rest letter_i (written.len (letter_i ∷ rest) refl) written.some))
shape_of (unsigned n) rest fits ends =
    let written = decimal_is_IsNumeral n fits in
    subst (λ xs. Shape xs rest) (sym (append_assoc (decimal n) (letter_u ∷ []) rest))
    (an_unsigned n fits
    (number_text (decimal n) rest letter_u (unsigned_len (decimal n) (letter_u ∷ rest) written.0 refl) written.0.0))
shape_of (float t) rest fits ends = a_float t (float_front t rest fits ends)
shape_of (string s) rest fits ends = grind (arith, append_assoc)
shape_of (boolean true) rest fits ends = a_word true refl refl
shape_of (boolean false) rest fits ends = a_word false refl refl

-- Each text of a written value and a rest that ends the value has one of these forms.
pub shape : (text rest : List ℕ) → IsWrittenValue text rest → EndsValue rest → Shape text rest
shape text rest w ends = subst (λ xs. Shape xs rest) w.written (shape_of w.thing rest w.is ends)

-- digits if no sign is
pub unsigned_numeral : (number : List ℕ) → IsSigned (codes "-") number → (slice_index number 0 == minus) ≡ false → IsNumeral 10 number
unsigned_numeral ds never plain = grind (arith, eqb-false, eqb-true, false≢true)

-- digits begin with no sign
no_minus : (ds : List ℕ) → IsNumeral 10 ds → (slice_index ds 0 == minus) ≡ false
no_minus [] numeral = refl
no_minus (d ∷ ds) numeral = grind (arith, digit_from_value, ne_eqb)

-- A number that passes the test for integers is the digits of an integer in range.
pub integer_told : (number : List ℕ) → IsSigned (codes "-") number → is_written_integer number ≡ true
    → (z : ℤ) × (fits_i64 z ≡ true) × (signed_decimal z ≡ number)
integer_told number signed ok = grind (arith, and_parts, integer_again, not-true)

-- The digits of each integer in range are written as an integer.
pub integer_tells : (z : ℤ) → fits_i64 z ≡ true → is_written_integer (signed_decimal z) ≡ true
integer_tells z fits = rw (signed_zero z fits, (integer_written z fits).value, fits) refl

-- A number that passes the test for unsigned integers is the digits of an unsigned integer in range.
unsigned_told : (number : List ℕ) → IsSigned (codes "-") number → is_written_unsigned number ≡ true
    → (n : ℕ) × (n < 2 ^ 64) × (decimal n ≡ number)
unsigned_told number signed ok =
    let n = digits_value 10 number in
    let last = and_parts (not (slice_index number 0 == minus) && not (has_extra_zero number)) (nat_lt n (2 ^ 64)) ok in
    let first = and_parts (not (slice_index number 0 == minus)) (not (has_extra_zero number)) last.0 in
    let small : n < 2 ^ 64 = ltb-true n (2 ^ 64) last.1 in
    let numeral = unsigned_numeral number signed (not-true (slice_index number 0 == minus) first.0) in
    (n, small, unsigned_again number numeral (not-true (has_extra_zero number) first.1) small)

-- a number at the start of a text, as the code finds it
module _ (text number : List ℕ) (whole : ℕ) (len : whole ≡ integer_len text) (some : 0 < whole) (front : number ≡ take whole text) where
  -- The number has a sign or none, and digits.
  pub signed_number : IsSigned (codes "-") number
  signed_number = rw (front, len) (signed_front (codes "-") text (omega (arith, len, some)))

  -- The answer after a number and its mark.
  module _ (after : List ℕ) (ok : Bool) (r : Bor (List ℕ)) (o : Option (Bor (List ℕ))) (back : after ≡ drop whole text)
      (is : o ≡ then_some ok r) where
    -- a mark that is read after it
    at_mark : (mark : ℕ) → byte mark after ≡ reads mark r.now → drop (integer_len text) text ≡ mark ∷ r.now
    at_mark mark read = rw (← len, ← back) (byte_left mark after r.now read)

    -- is the only rest if the number is written so, and else none is
    mark_answer : (mark : ℕ) (written : Bool) → byte mark after ≡ reads mark r.now → ok ≡ written
        → (written ≡ true → (v : Value (List ℕ)) × IsValue v × (built_value v ≡ number ++ mark ∷ []))
        → (drop (integer_len text) text ≡ mark ∷ r.now → (rest : List ℕ) → Shape text rest → (written ≡ true) × (rest ≡ r.now))
        → IsOnlyRest (IsWrittenValue text) EndsValue o
    mark_answer mark false read tells found only =
        rw (is, tells) (λ rest w ends. absurd (false≢true (only (at_mark mark read) rest (shape text rest w ends)).0))
    mark_answer mark true read tells found only =
        let v = found refl in
        let marked = at_mark mark read in
        rw (is, tells) (
          record { thing = v.0; is = v.1; written = grind (arith, v.2, append_assoc, take-append-drop) },
          λ rest w ends. (only marked rest (shape text rest w ends)).1,
        )

    -- After the mark `i`, the answer is the rest after an integer.
    pub integer_answer : byte letter_i after ≡ reads letter_i r.now → ok ≡ is_written_integer number → IsOnlyRest (IsWrittenValue text) EndsValue o
    integer_answer read tells = mark_answer letter_i (is_written_integer number) read tells
        (λ ok. let t = integer_told number signed_number ok in (integer t.0, t.1, ap (λ (xs : List ℕ). xs ++ letter_i ∷ []) t.2))
        (λ marked rest s.
        elim s [
          | an_integer z fits t ↦ grind (arith, integer_tells)
          | an_unsigned n fits t ↦ absurd (omega (arith, ap (λ (xs : List ℕ). slice_index xs 0) (sym marked ∙ t.after)))
          | a_float x f ↦ absurd (f.no_i (byte_at_drop text r.now (integer_len text) letter_i marked).0)
          | a_string none quote x ↦ absurd (omega (arith, len, some, none))
          | a_word b none word ↦ absurd (omega (arith, len, some, none))
        ])

    -- After the mark `u`, the answer is the rest after an unsigned integer.
    pub unsigned_answer : byte letter_u after ≡ reads letter_u r.now → ok ≡ is_written_unsigned number
        → IsOnlyRest (IsWrittenValue text) EndsValue o
    unsigned_answer read tells = mark_answer letter_u (is_written_unsigned number) read tells
        (λ ok. let t = unsigned_told number signed_number ok in (unsigned t.0, t.1, ap (λ (xs : List ℕ). xs ++ letter_u ∷ []) t.2))
        (λ marked rest s.
        elim s [
          | an_integer z fits t ↦ absurd (omega (arith, ap (λ (xs : List ℕ). slice_index xs 0) (sym marked ∙ t.after)))
          | an_unsigned n fits t ↦
              grind (arith, decimal_is_IsNumeral, no_minus, decimal_digit, first_digit, first_decimal, lt-ltb)
          | a_float x f ↦ absurd (f.no_u (byte_at_drop text r.now (integer_len text) letter_u marked).0)
          | a_string none quote x ↦ absurd (omega (arith, len, some, none))
          | a_word b none word ↦ absurd (omega (arith, len, some, none))
        ])

-- the steps of a reader of a number
pub ruleset number_steps = (signed_number, integer_answer, unsigned_answer)

-- A text that reads as a float begins with a written float.
float_found : (text t rest : List ℕ) → float_at text ≡ reads (float t) rest → IsWrittenValue text rest
float_found text t rest read =
    let some : 0 < float_len text = grind (arith, cases_eq, float_misses) in
    let found = sym (float_reads text some) ∙ read in
    record { thing = float t; is = subst IsFloat (cc) (float_len_float text some); written = grind (arith, take-append-drop) }

module _ (text : List ℕ) (whole : ℕ) (len : whole ≡ integer_len text) (some : 0 < whole) (no_i : byte letter_i (drop whole text) ≡ miss)
    (no_u : byte letter_u (drop whole text) ≡ miss) where
  -- if no mark of an integer is, the builder writes no value but a float
  float_only : (rest : List ℕ) → IsWrittenValue text rest → EndsValue rest → (t : List ℕ) × (float_at text ≡ reads (float t) rest)
  float_only rest w ends =
      let t = shape text rest w ends in grind (arith, byte_missing letter_i (drop whole text) no_i rest, byte_missing letter_u (drop whole text) no_u rest)

  -- If no float is read, no rest follows a written value.
  pub no_float : (o : Option (Bor (List ℕ))) → o ≡ None → float_at text ≡ miss → IsOnlyRest (IsWrittenValue text) EndsValue o
  no_float o e missed = rw e (λ rest w ends. let x = float_only rest w ends in absurd (cc (missed, x.1)))

  -- If no mark follows the number, the rest after the float is the only rest after a written value.
  pub float_answer : (t left : List ℕ) → float_at text ≡ reads (float t) left
      → IsWrittenValue text left × ((rest : List ℕ) → IsWrittenValue text rest → EndsValue rest → rest ≡ left)
  float_answer t left read = (float_found text t left read, λ rest w ends. let x = float_only rest w ends in cc (read, x.1))

-- the steps of a reader of a float
pub ruleset float_steps = (no_float, float_answer)

-- After a quote, the builder writes only a string.
pub value_string : (text rest : List ℕ) → integer_len text ≡ 0 → slice_index text 0 ≡ quote → IsWrittenValue text rest → EndsValue rest
    → IsWrittenString text rest
value_string text rest whole first w ends = grind (arith, shape)

-- if neither a number nor a string is, the builder writes a word
pub value_word : (text rest : List ℕ) → integer_len text ≡ 0 → slice_index text 0 ≢ quote → IsWrittenValue text rest → EndsValue rest
    → (b : Bool) × (text ≡ built_value (boolean b) ++ rest)
value_word text rest whole first w ends = let t = shape text rest w ends in grind (arith)

-- Two words for booleans at the start of one text are the same word, and the same rest follows them.
word_same : (a b : Bool) (rest left : List ℕ) → built_value (boolean a) ++ rest ≡ built_value (boolean b) ++ left → rest ≡ left
word_same x0 x1 rest left e = grind (arith)

-- The rest after a word is the only rest after a written value.
pub word_answer : (b : Bool) (text left : List ℕ) → integer_len text ≡ 0 → slice_index text 0 ≢ quote
    → StripsPrefix (FindsTextPrefix (built_value (boolean b))) text left
    → IsWrittenValue text left × ((rest : List ℕ) → IsWrittenValue text rest → EndsValue rest → rest ≡ left)
word_answer b text left whole first s =
    let e : text ≡ built_value (boolean b) ++ left = s.1.1 ∙ ap (λ (xs : List ℕ). built_value (boolean b) ++ xs) (sym s.2) in (
      record { thing = boolean b; is = tt; written = sym e },
      λ rest w ends. let x = value_word text rest whole first w ends in word_same x.0 b rest left (sym x.1 ∙ e),
    )

-- If the word for true is not there, the rest after the word for false is the only rest after a value.
pub last_word : (text : List ℕ) (o : Option (Bor (List ℕ))) → integer_len text ≡ 0 → slice_index text 0 ≢ quote
    → LacksTextAt (codes "true") text 0
    → MatchOption o (LacksTextAt (codes "false") text 0) (λ r. StripsPrefix (FindsTextPrefix (codes "false")) text r.now)
    → IsOnlyRest (IsWrittenValue text) EndsValue o
last_word text (Some r) whole first no_true found = word_answer false text r.now whole first found
last_word text None whole first no_true no_false = λ rest w ends. let x = value_word text rest whole first w ends in grind (arith)

-- After a quote, the rest after a string is the only rest after a value.
pub string_only_value : (text : List ℕ) (o : Option (Bor (List ℕ))) → integer_len text ≡ 0 → slice_index text 0 ≡ quote
    → IsOnlyRest (IsWrittenString text) (λ rest. Unit) o → IsOnlyRest (IsWrittenValue text) EndsValue o
string_only_value text None whole first none = λ rest w ends. none rest (value_string text rest whole first w ends) tt
string_only_value text (Some left) whole first only = (
  record { thing = string only.0.thing; is = tt; written = only.0.written },
  λ rest w ends. only.1 rest (value_string text rest whole first w ends) tt,
)
