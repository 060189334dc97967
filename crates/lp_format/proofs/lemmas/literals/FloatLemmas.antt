-- Floats at the start of a text.
use Rattle.std.proofs.Common.{◌≡◌, ◌≢◌, subst, ℕ, suc, ◌+◌, Bool, ◌<◌, ◌≤◌, List, [], ◌∷◌, ◌++◌, length, take, drop}
use Rattle.std.proofs.Common.{slice_index, true, false, refl, sym, ap, ◌∙◌, arith, inl, inr, one-add, zero-add, add-zero, ◌==◌, ◌||◌, codes}
use Rattle.std.proofs.Common.{IsUtf8, IsCharBoundary, IsAscii, take-add, eqb-true, eq-eqb, ne_eqb, le-leb, lt-ltb, ltb-true, append_assoc}
use Rattle.std.proofs.Common.{take_all, take-append-drop, drop_at, drop-drop, length-append, length-drop, length-take-le, get_or-append-add}
use Rattle.std.proofs.Common.{get_or-take, take_at}
use Rattle.std.specs.{Char.is_ascii_digit, Char.digit_value, Str.Parse.AllDigits, Str.Parse.IsNumeral, List.list_all, List.AllPass}
use Rattle.std.proofs.Math.Seq.{take-nil}
use Rattle.std.proofs.lemmas.Bool.{both_ways, cases_eq, cases_lt, cases_Bool, and_parts, and_from, eqb-false}
use Rattle.std.proofs.lemmas.{Bool.Decides.nat_tests, Grind.common_steps, List.get_or_append_left, List.get_or_past}
use Rattle.std.proofs.lemmas.{Str.IsCharBoundary-start, Str.IsCharBoundary-from_take, Str.IsUtf8-from_ascii, Str.Parse.digit_from_value}
use Rattle.std.proofs.lemmas.List.{Sums.prefix_len-le-length, Sums.AllPass-from_list_all, Folds.list_all-append}
use Rattle.lp_format.specs.format.{comma, space, letter_i, letter_u, is_one_of, miss, reads, value, IsFloat, IsMarked, IsSigned, float}
use Rattle.lp_format.specs.format.{float_at, digits_len, number_len, marked_len, integer_len, fraction_len, exponent_len, float_len}
use Rattle.lp_format.specs.format.{unsigned_at}
use Rattle.lp_format.proofs.lemmas.values.ValueLemmas.{front_numeral, integer_unmarked}

-- a digit passes the test `is_ascii_digit`
pub digit_passes : (b : ℕ) → digit_value b < 10 → is_ascii_digit b ≡ true
digit_passes b h = grind (arith, digit_from_value, and_from, le-leb)

-- digits before a text are counted together with the digits at its start
pub digits_before : (ds tail : List ℕ) → AllDigits 10 ds → digits_len (ds ++ tail) ≡ length ds + digits_len tail
digits_before [] tail digits = sym (zero-add (digits_len tail))
digits_before (d ∷ ds) tail digits = rw (digit_passes d digits.0, digits_before ds tail digits.1, one-add) (omega arith)

-- a signed number before a text is counted together with the digits at the start of the text
pub signed_before : (signs text tail : List ℕ) → ((d : ℕ) → is_ascii_digit d ≡ true → is_one_of signs d ≡ false) → IsSigned signs text
    → number_len signs (text ++ tail) ≡ length text + digits_len tail
signed_before signs text tail apart never = grind (arith, ne_eqb, digits_before, digit_passes, one-add)

-- a signed number is not empty
pub signed_some : (signs text : List ℕ) → IsSigned signs text → 0 < length text
signed_some signs text never = grind arith

-- a mark and its part before a text are counted together with the digits at the start of the text
pub marked_before : (marks : List ℕ) (part : List ℕ → ℕ) (b : ℕ) (x tail : List ℕ) → is_one_of marks b ≡ true
    → part (x ++ tail) ≡ length x + digits_len tail → 0 < length x
    → marked_len marks part (b ∷ (x ++ tail)) ≡ suc (length x) + digits_len tail
marked_before marks part b x tail mark len some = rw (mark, len, lt-ltb 0 (length x + digits_len tail) (omega arith)) (omega arith)

-- a digit is no minus sign
pub minus_no_digit : (d : ℕ) → is_ascii_digit d ≡ true → is_one_of (codes "-") d ≡ false
minus_no_digit d h = grind (arith, common_steps)

-- the mark of an exponent is neither a digit nor a point
mark_no_digit : (d : ℕ) → is_one_of (codes "eE") d ≡ true → (is_ascii_digit d ≡ false) × (is_one_of (codes ".") d ≡ false)
mark_no_digit d h = (grind (arith, common_steps), grind (arith, common_steps))

-- the longest float at the start of a text is no shorter than the integer there
integer_or_more : (t : List ℕ) → integer_len t ≤ float_len t
integer_or_more t = grind (arith, cases_Bool, eqb-true)

-- how many bytes a fraction and an exponent have at the start of a text
abbrev tail_len : List ℕ → ℕ
tail_len suffix = fraction_len suffix + exponent_len (drop (fraction_len suffix) suffix)

-- the length of the longest float if no digit follows the whole part
float_len_after : (whole suffix : List ℕ) → IsSigned (codes "-") whole → digits_len suffix ≡ 0
    → float_len (whole ++ suffix) ≡ length whole + tail_len suffix
float_len_after whole suffix w ends =
    let len : integer_len (whole ++ suffix) ≡ length whole = signed_before (codes "-") whole suffix minus_no_digit w
    ∙ rw ends (add-zero (length whole)) in
    let past : drop (length whole) (whole ++ suffix) ≡ suffix = drop_at whole suffix (length whole) refl in
    grind (arith, nat_tests, signed_some, drop-drop)

-- the exponent at the start of a text is no shorter than an exponent that the text begins with
exponent_at_least : (m : ℕ) (x rest : List ℕ) → IsMarked (codes "eE") (IsSigned (codes "+-")) (m ∷ x)
    → suc (length x) ≤ exponent_len (m ∷ (x ++ rest))
exponent_at_least m x rest (mark, part) =
    let digits = signed_before (codes "+-") x rest (λ d h. grind (arith, common_steps)) part in
    omega (arith, marked_before (codes "eE") (number_len (codes "+-")) m x rest mark digits (signed_some (codes "+-") x part))

-- the fraction and exponent at the start of a text are no shorter than a fraction and exponent that the text begins with
tail_at_least : (fraction exponent rest : List ℕ) → IsMarked (codes ".") (IsNumeral 10) fraction
    → IsMarked (codes "eE") (IsSigned (codes "+-")) exponent → length fraction + length exponent ≤ tail_len (fraction ++ (exponent ++ rest))
tail_at_least [] [] rest f e = omega arith
tail_at_least [] (m ∷ x) rest f e = grind (arith, mark_no_digit, exponent_at_least)
tail_at_least (p ∷ y) [] rest (point, digits) e = grind (arith, marked_before, digits_before)
tail_at_least (p ∷ y) (m ∷ x) rest (point, digits) e =
    let after = m ∷ (x ++ rest) in
    let fraction : fraction_len (p ∷ (y ++ after)) ≡ suc (length y) =
    grind (arith, marked_before, digits_before, mark_no_digit, add-zero) in
    rw (fraction, drop_at (p ∷ y) after (suc (length y)) refl) (omega (arith, exponent_at_least m x rest e))

-- the longest float at the start of a text is no shorter than a whole part, a fraction and an exponent that the text begins with
float_at_least : (whole fraction exponent rest : List ℕ) → IsSigned (codes "-") whole → IsMarked (codes ".") (IsNumeral 10) fraction
    → IsMarked (codes "eE") (IsSigned (codes "+-")) exponent
    → length whole + length fraction + length exponent ≤ float_len (whole ++ (fraction ++ (exponent ++ rest)))
float_at_least whole [] [] rest w f e =
    omega (arith, integer_or_more (whole ++ rest), signed_before (codes "-") whole rest minus_no_digit w)
float_at_least whole [] (m ∷ x) rest w f e =
    let len = float_len_after whole (m ∷ (x ++ rest)) w (rw (mark_no_digit m e.0).0 refl) in
    omega (arith, len, tail_at_least [] (m ∷ x) rest f e)
float_at_least whole (p ∷ y) exponent rest w f e =
    let len = float_len_after whole (p ∷ (y ++ (exponent ++ rest))) w (grind (arith, common_steps)) in
    omega (arith, len, tail_at_least (p ∷ y) exponent rest f e)

-- no float literal at the start of a text is longer than its longest float
pub float_len_longest : (t : List ℕ) (n : ℕ) → n ≤ length t → IsFloat (take n t) → n ≤ float_len t
float_len_longest t n fits (whole, fraction, exponent, is, w, f, e) =
    let text : whole ++ (fraction ++ (exponent ++ drop n t)) ≡ t = grind (arith, append_assoc, take-append-drop) in
    omega (arith, length-take-le n t fits, ap length is, length-append {A = ℕ}, float_at_least whole fraction exponent (drop n t) w f e, ap float_len text)

-- the number at the start of a text is no longer than the text
number_len_fits : (signs t : List ℕ) → number_len signs t ≤ length t
number_len_fits signs t = grind (arith, prefix_len-le-length, length-drop)

-- a number at the start of a text is digits with at most one sign before them
pub signed_front : (signs t : List ℕ) → 0 < number_len signs t → IsSigned signs (take (number_len signs t) t)
signed_front signs [] some = absurd (omega (arith, number_len_fits signs []))
signed_front signs (b ∷ rest) some = elim (cases_Bool (is_one_of signs b)) [
  | inl sign ↦ elim (cases_eq (digits_len rest) 0) [
    | inl none ↦ let nothing : 0 < 0 = rw (sign, eq-eqb (digits_len rest) 0 none) at some in absurd (omega arith)
    | inr digits ↦ rw (sign, ne_eqb (digits_len rest) 0 digits, one-add) (inl (sign, front_numeral rest digits))
  ]
  | inr other ↦ elim (cases_Bool (is_ascii_digit b)) [
    | inl first ↦
        let numeral = front_numeral (b ∷ rest) (rw first (λ e. absurd (omega (arith, e)))) in
        let some : (suc (digits_len rest) == 0) ≡ false = ne_eqb (suc (digits_len rest)) 0 (λ e. absurd (omega (arith, e))) in
        rw (other, first, one-add, some, zero-add) (inr (rw (first, one-add) at numeral))
    | inr none ↦ let nothing : 0 < 0 = rw (other, none) at some in absurd (omega arith)
  ]
]

-- the bytes that `marked_len` counts are a mark and a part, or none
marked_front : (marks : List ℕ) (part : List ℕ → ℕ) (Part : List ℕ → Type 0) (t : List ℕ)
    → ((x : List ℕ) → 0 < part x → Part (take (part x) x)) → IsMarked marks Part (take (marked_len marks part t) t)
marked_front marks part Part t of_part = grind (arith, take-nil, cases_Bool, and_parts, one-add, ltb-true)

-- the longest float at the start of a text is a float literal
pub float_len_float : (t : List ℕ) → 0 < float_len t → IsFloat (take (float_len t) t)
float_len_float t some =
    let w = integer_len t in
    let suffix = drop w t in
    let f = fraction_len suffix in
    let after = drop (w + f) t in
    let whole : w ≢ 0 = λ none. absurd (grind (arith, nat_tests)) in
    let len : float_len t ≡ w + f + exponent_len after = rw (ne_eqb w 0 whole) refl in (
      take w t,
      take f suffix,
      take (exponent_len after) after,
      rw (len, take-add (w + f) (exponent_len after) t, take-add w f t, append_assoc) refl,
      signed_front (codes "-") t (omega arith),
      marked_front (codes ".") digits_len (IsNumeral 10) suffix (λ x h. front_numeral x (λ e. absurd (omega arith))),
      marked_front (codes "eE") (number_len (codes "+-")) (IsSigned (codes "+-")) after (signed_front (codes "+-")),
    )

-- whether a float can hold the byte
abbrev pub in_float : ℕ → Bool
in_float b = is_ascii_digit b || is_one_of (codes "+-.eE") b

-- a float can hold each digit
pub digits_float : (ds : List ℕ) → AllDigits 10 ds → list_all in_float ds ≡ true
digits_float [] all = refl
digits_float (d ∷ ds) all = rw (digit_passes d all.0, digits_float ds all.1) refl

-- a float can hold each byte of a signed number
signed_float : (signs text : List ℕ) → ((d : ℕ) → is_one_of signs d ≡ true → in_float d ≡ true) → IsSigned signs text
    → list_all in_float text ≡ true
signed_float signs text sign never = grind (arith, digits_float)

-- a float can hold each byte of a mark and its part
marked_float : (marks : List ℕ) (Part : List ℕ → Type 0) (text : List ℕ) → ((d : ℕ) → is_one_of marks d ≡ true → in_float d ≡ true)
    → ((x : List ℕ) → Part x → list_all in_float x ≡ true) → IsMarked marks Part text → list_all in_float text ≡ true
marked_float marks Part text mark of_part marked = grind arith

-- each byte of a float is a byte that a float can hold
pub float_bytes : (t : List ℕ) → IsFloat t → AllPass in_float t
float_bytes t parts =
    let whole = signed_float (codes "-") parts.0 (λ d h. grind (arith, common_steps)) parts.4 in
    let fraction = marked_float (codes ".") (IsNumeral 10) parts.1 (λ d h. grind (arith, common_steps))
    (λ x n. digits_float x n.1) parts.5 in
    let exponent = marked_float (codes "eE") (IsSigned (codes "+-")) parts.2 (λ d h. grind (arith, common_steps))
    (λ x n. signed_float (codes "+-") x (λ d h. grind (arith, common_steps)) n) parts.6 in
    AllPass-from_list_all in_float t (rw (parts.3, list_all-append, list_all-append, whole, fraction, exponent) refl)

-- each byte of a float is ASCII
float_ascii : (t : List ℕ) → IsFloat t → IsAscii t
float_ascii t parts i = let byte = float_bytes t parts i 0 in grind (arith, common_steps, cases_lt, get_or_past)

-- the integer at the start of a text is no longer than the text
pub integer_len_fits : (t : List ℕ) → integer_len t ≤ length t
integer_len_fits t = number_len_fits (codes "-") t

-- a mark and a part at the start of a text are no longer than the text
marked_len_fits : (marks : List ℕ) (part : List ℕ → ℕ) (t : List ℕ) → ((x : List ℕ) → part x ≤ length x)
    → marked_len marks part t ≤ length t
marked_len_fits marks part t fits = grind (arith, length-drop)

-- the longest float at the start of a text is no longer than the text
float_len_fits : (t : List ℕ) → float_len t ≤ length t
float_len_fits t =
    let fraction = marked_len_fits (codes ".") digits_len (drop (integer_len t) t) (prefix_len-le-length is_ascii_digit) in
    let exponent = λ (x : List ℕ). marked_len_fits (codes "eE") (number_len (codes "+-")) x (number_len_fits (codes "+-")) in
    grind (arith, nat_tests, integer_len_fits, length-drop)

-- a UTF-8 text can be cut after the longest float at its start
pub float_boundary : (t : List ℕ) → IsUtf8 t → float_len t ≤ length t → IsCharBoundary t (float_len t)
float_boundary t utf8 fits =
    elim (cases_eq (float_len t) 0) [
      | inl none ↦ rw none (IsCharBoundary-start t utf8)
      | inr some ↦
          let ascii = float_ascii (take (float_len t) t) (float_len_float t (omega arith)) in
          IsCharBoundary-from_take t (float_len t) utf8 fits (IsUtf8-from_ascii (take (float_len t) t) ascii)
    ]

-- a text that its longest float fills is a float
pub float_whole : (t : List ℕ) → 0 < float_len t → length t ≤ float_len t → IsFloat t
float_whole t some fills = grind (arith, take_all, float_len_float)

-- the longest float at the start of a float is the whole float
pub float_fills : (t : List ℕ) → IsFloat t → (0 < float_len t) × (length t ≤ float_len t)
float_fills t parts = grind (arith, float_len_longest, take_all, length-append, signed_some)

-- no float is read if the longest float at the start of a text is empty
pub float_misses : (t : List ℕ) → float_len t ≡ 0 → float_at t ≡ miss
unfolding float_at
float_misses t none = rw (eq-eqb (float_len t) 0 none) refl

-- the longest float at the start of a text is read
pub float_reads : (t : List ℕ) → 0 < float_len t → float_at t ≡ reads (float (take (float_len t) t)) (drop (float_len t) t)
unfolding float_at
float_reads t some = rw (ne_eqb (float_len t) 0 (λ e. absurd (omega arith))) refl

-- no value goes on with this text: it is empty, or begins with a comma, a space or a NUL
abbrev pub Ends : List ℕ → Type 0
Ends rest = is_one_of (0 ∷ comma ∷ space ∷ []) (slice_index rest 0) ≡ true

-- a byte with which no value goes on is neither in a float nor the mark of an integer
no_float_byte : (b : ℕ) → is_one_of (0 ∷ comma ∷ space ∷ []) b ≡ true → (in_float b ≡ false) × (b ≢ letter_i) × (b ≢ letter_u)
no_float_byte b e = (grind (arith, common_steps), (λ i. grind (arith, common_steps)), (λ i. grind (arith, common_steps)))

-- a float before a text with which no value goes on is the longest float there
float_ends : (t rest : List ℕ) → IsFloat t → Ends rest → float_len (t ++ rest) ≡ length t
float_ends t rest parts ends =
    let P : List ℕ → Type 0 = IsFloat in
    let text = t ++ rest in
    let least = float_len_longest text (length t) (omega (arith, length-append t rest))
    (subst P (sym (take_at t rest (length t) refl)) parts) in
    elim (cases_lt (length t) (float_len text)) [
      | inl longer ↦
          let fits = length-take-le (float_len text) text (float_len_fits text) in
          let byte = float_bytes (take (float_len text) text) (float_len_float text (omega arith)) (length t) 0 (omega arith) in
          let same = get_or-take (float_len text) text (length t) 0 longer ∙ rw add-zero at (get_or-append-add t rest 0 0) in
          absurd (both_ways (in_float (slice_index rest 0)) (no_float_byte (slice_index rest 0) ends).0 (rw same at byte))
      | inr shorter ↦ omega arith
    ]

-- neither `i` nor `u` is in a float or directly after it, if no value goes on there
unmarked : (t rest : List ℕ) (n : ℕ) → IsFloat t → Ends rest → n ≤ length t
    → (slice_index (t ++ rest) n ≢ letter_i) × (slice_index (t ++ rest) n ≢ letter_u)
unmarked t rest n parts ends fits = elim (cases_lt n (length t)) [
  | inl within ↦ let byte = float_bytes t parts n 0 within in grind (arith, common_steps, get_or_append_left)
  | inr past ↦ let same = rw add-zero at (get_or-append-add t rest 0 0) in grind (arith, no_float_byte)
]

-- a float at the start of a text: it has a whole part, neither `i` nor `u` follows this part, no unsigned integer is read, and the float is
-- read
pub record FloatFront (text t rest : List ℕ) : Type 0 where
  pub some : 0 < integer_len text
  pub no_i : slice_index text (integer_len text) ≢ letter_i
  pub no_u : slice_index text (integer_len text) ≢ letter_u
  pub unsigned : unsigned_at text ≡ miss
  pub reads_it : float_at text ≡ reads (float t) rest

-- a float before a text with which no value goes on is at the start as `FloatFront` says
pub float_front : (t rest : List ℕ) → IsFloat t → Ends rest → FloatFront (t ++ rest) t rest
unfolding unsigned_at
float_front t rest parts ends =
    let text = t ++ rest in
    let len = float_ends t rest parts ends in
    let filled : 0 < float_len text = omega (arith, len, (float_fills t parts).0, float_len_fits t) in
    grind (arith, integer_or_more, cases_eq, ne_eqb, eqb-true, zero-add, cases_Bool, eqb-false, nat_tests, unmarked, float_reads, take_at, drop_at)

-- a float before a text with which no value goes on reads back
pub float_reads_back : (t rest : List ℕ) → IsFloat t → Ends rest → value (t ++ rest) ≡ reads (float t) rest
unfolding value
float_reads_back t rest parts ends = grind (arith, float_front, integer_unmarked)
