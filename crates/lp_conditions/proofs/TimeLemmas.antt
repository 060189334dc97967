-- The times of lines, and the pieces that have them.
use Rattle.std.proofs.Common.{◌≡◌, ◌<◌, ◌≤◌, ◌-◌, ◌==◌, ◌*ℤ◌, ℕ, suc, zero, ℤ, pos, negsuc, Bool, ◌||◌, false, true, List, [], ◌∷◌, ◌++◌, length, take, drop, Option, None, Some}
use Rattle.std.proofs.Common.{FitsSigned, w64, refl, sym, ap, subst, ◌∙◌, arith, decimal, inl, inr, length-append, ne_eqb}
use Rattle.std.proofs.Common.{IsUtf8, IsCharBoundary, slice_index, ◌+◌, get_or-take, length-take-le}
use Rattle.std.proofs.lemmas.Str.{IsCharBoundary-after_ascii, IsCharBoundary-at_seam, IsCharBoundary-start}
use Rattle.std.proofs.Math.Nat.{eq-zero-or-pos}
use Rattle.std.proofs.Math.Seq.{take-append_seam}
use Rattle.std.proofs.lemmas.{Bool.cases_Bool, Fmt.decimal_is_IsNumeral, Grind.common_steps, Str.Parse.digit_from_value}
use Rattle.std.specs.{Str.Parse.IsNumeral, Fmt.signed_decimal, List.replace_range}
use Rattle.lp_format.proofs.lemmas.line.TrimLemmas.{is_blank, left_of, trimmed_is, trimmed_is_after}
use Rattle.lp_format.proofs.lemmas.values.ValueLemmas.{fits_from_test}
use Rattle.influxdb_line_protocol.specs.format.Bytes.{hash, newline, space}
use Rattle.influxdb_line_protocol.specs.format.Trimming.{trimmed}
use Rattle.influxdb_line_protocol.specs.format.Values.{fits_i64}
use Rattle.lp_conditions.specs.declared.times.Times.{Times}
use Rattle.lp_conditions.specs.declared.times.TimeChange.TheVariants.{Wrong}
use Rattle.lp_conditions.specs.declared.times.TimeFault.TheVariants.{Overflow}
use Rattle.lp_conditions.specs.LineTimes.{change_of, nanos_in, piece_at, text_at, word_end, word_start, front_of}

-- a time that is more nanoseconds than fit is at fault
pub too_many_nanos : (times : Times) (came : Option ℤ) (time : ℤ) → came ≡ Some time → (¬ FitsSigned w64 (time *ℤ nanos_in times.unit))
    → Wrong (Overflow time times.unit) ≡ change_of times came
too_many_nanos times came time is over =
    elim (cases_Bool (fits_i64 (time *ℤ nanos_in times.unit))) [
      | inl fits ↦ absurd (over (fits_from_test (time *ℤ nanos_in times.unit) fits))
      | inr not ↦ rw (is, not) refl
    ]

-- a byte begins a text that is trimmed: it is no newline, no blank, and begins no comment
record Begins (b : ℕ) : Type 0 where
  no_newline : (b == newline) ≡ false
  no_hash : (b == hash) ≡ false
  no_blank : is_blank b ≡ false

-- what is left of a text is no longer
left_shorter : (c : Bool) (text : List ℕ) → length (left_of c text) ≤ length text
left_shorter c [] = omega arith
left_shorter c (b ∷ text) = grind (arith, cases_Bool, left_shorter false text, left_shorter true text)

-- what is left of a text begins so
left_begins : (c : Bool) (text : List ℕ) (b : ℕ) (rest : List ℕ) → left_of c text ≡ b ∷ rest → Begins b
left_begins c [] b rest e = absurd (cc)
left_begins c (d ∷ text) b rest e =
    elim (cases_Bool (d == newline)) [
      | inl cut ↦ left_begins false text b rest (rw cut at e)
      | inr on ↦ elim (cases_Bool (c || d == hash)) [
        | inl comment ↦ left_begins true text b rest (rw (on, comment) at e)
        | inr plain ↦ elim (cases_Bool (is_blank d)) [
          | inl skip ↦ left_begins false text b rest (rw (on, plain, skip) at e)
          | inr keep ↦
              let same : d ∷ text ≡ b ∷ rest = rw (on, plain, keep) at e in
              record { no_newline = grind (arith); no_hash = grind (arith, cases_Bool); no_blank = grind (arith) }
        ]
      ]
    ]

-- a text that begins so is left
left_all : (b : ℕ) (rest : List ℕ) → Begins b → left_of false (b ∷ rest) ≡ b ∷ rest
left_all b rest is = rw (is.no_newline, is.no_hash, is.no_blank) refl

-- a text that is left after a front may be another that begins so
left_other : (c : Bool) (front : List ℕ) (b : ℕ) (rest : List ℕ) (d : ℕ) (other : List ℕ) → left_of c (front ++ b ∷ rest) ≡ b ∷ rest → Begins d
    → left_of c (front ++ d ∷ other) ≡ d ∷ other
left_other true [] b rest d other e is = grind (arith, cases_Bool, left_shorter false rest, left_shorter true rest)
left_other false [] b rest d other e is = left_all d other is
left_other c (f ∷ front) b rest d other e is =
    elim (cases_Bool (f == newline)) [
      | inl cut ↦ rw cut (left_other false front b rest d other (rw cut at e) is)
      | inr on ↦ elim (cases_Bool (c || f == hash)) [
        | inl comment ↦ rw (on, comment) (left_other true front b rest d other (rw (on, comment) at e) is)
        | inr plain ↦ elim (cases_Bool (is_blank f)) [
          | inl skip ↦ rw (on, plain, skip) (left_other false front b rest d other (rw (on, plain, skip) at e) is)
          | inr keep ↦
              let same : f ∷ (front ++ b ∷ rest) ≡ b ∷ rest = rw (on, plain, keep) at e in
              absurd (omega (arith, ap length same, length-append {A = ℕ}))
        ]
      ]
    ]

-- a text that is not empty, and begins so
record BeginsText (text : List ℕ) : Type 0 where
  first : ℕ
  rest : List ℕ
  is : text ≡ first ∷ rest
  begins : Begins first

-- digits begin so
number_begins : (text : List ℕ) → IsNumeral 10 text → BeginsText text
number_begins [] is = absurd (omega (arith, is.0))
number_begins (d ∷ text) is =
    let range = digit_from_value d is.1.0 in
    record {
      first = d;
      rest = text;
      is = refl;
      begins = record {
        no_newline = ne_eqb d newline (omega (arith, range.0));
        no_hash = ne_eqb d hash (omega (arith, range.0));
        no_blank = grind (arith, common_steps);
      };
    }

-- and so does a time
time_begins : (time : ℤ) → FitsSigned w64 time → BeginsText (signed_decimal time)
time_begins (pos n) fits = number_begins (decimal n) (decimal_is_IsNumeral n (omega (arith, fits))).0
time_begins (negsuc n) fits =
    record { first = 45; rest = _; is = refl; begins = record { no_newline = refl; no_hash = refl; no_blank = refl } }

-- a text of which a part is replaced by such a text
replaced_begins : (i j : ℕ) (b : ℕ) (rest : List ℕ) (new : List ℕ) → Begins b → BeginsText new → BeginsText (replace_range (b ∷ rest) i j new)
replaced_begins zero j b rest new is by =
    record { first = by.first; rest = by.rest ++ drop j (b ∷ rest); is = ap (λ (l : List ℕ). l ++ drop j (b ∷ rest)) by.is; begins = by.begins }
replaced_begins (suc i) j b rest new is by = record { first = b; rest = (take i rest ++ new) ++ drop j (b ∷ rest); is = refl; begins = is }

-- the text of a line that has a time begins so
text_begins : (came : Option ℤ) (time : ℤ) (b : ℕ) (rest : List ℕ) → FitsSigned w64 time → Begins b → BeginsText (text_at came time (b ∷ rest))
text_begins None time b rest fits is = record { first = b; rest = _; is = refl; begins = is }
text_begins (Some was) time b rest fits is =
    let text = b ∷ rest in
    replaced_begins (word_start (take (word_end text) text)) (word_end text) b rest (signed_decimal time) is (time_begins time fits)

-- what a piece has before its text, and after that its text
pub front_and_text : (piece : List ℕ) → piece ≡ front_of piece ++ trimmed piece
front_and_text piece =
    let after = trimmed_is_after piece in
    let long : length piece - length (trimmed piece) ≡ length after.0 = omega (arith, ap length after.1, length-append {A = ℕ}) in
    let front : front_of piece ≡ after.0 =
    ap (λ n. take n piece) long ∙ ap (take (length after.0)) after.1 ∙ take-append_seam after.0 (trimmed piece) in
    after.1 ∙ ap (λ (l : List ℕ). l ++ trimmed piece) (sym front)

-- with another text that begins so, a piece has the same before it
front_with : (piece : List ℕ) (b : ℕ) (rest : List ℕ) (text : List ℕ) → trimmed piece ≡ b ∷ rest → BeginsText text
    → front_of (front_of piece ++ text) ≡ front_of piece
front_with piece b rest text is by =
    let front = front_of piece in
    let left : left_of false (front ++ b ∷ rest) ≡ b ∷ rest =
    ap (left_of false) (ap (λ (l : List ℕ). front ++ l) (sym is) ∙ sym (front_and_text piece)) ∙ sym (trimmed_is piece) ∙ is in
    let new : trimmed (front ++ text) ≡ text =
    ap trimmed (ap (λ (l : List ℕ). front ++ l) by.is) ∙ trimmed_is (front ++ by.first ∷ by.rest)
    ∙ left_other false front b rest by.first by.rest left by.begins ∙ sym by.is in
    let long : length (front ++ text) - length (trimmed (front ++ text)) ≡ length front = omega (arith, ap length new, length-append {A = ℕ}) in
    ap (λ n. take n (front ++ text)) long ∙ take-append_seam front text

-- so it has with a time
pub front_stays : (came : Option ℤ) (time : ℤ) (piece : List ℕ) → FitsSigned w64 time → 0 < length (trimmed piece)
    → front_of (piece_at came time piece) ≡ front_of piece
front_stays came time piece fits some = text_first (trimmed piece) refl some
  where
    -- whatever the text is
    text_first : (text : List ℕ) → trimmed piece ≡ text → 0 < length text → front_of (piece_at came time piece) ≡ front_of piece
    text_first [] is none = absurd (omega (arith, none))
    text_first (b ∷ rest) is more =
        let begins = left_begins false piece b rest (sym (trimmed_is piece) ∙ is) in
        front_with piece b rest (text_at came time (trimmed piece)) is
        (subst (λ (l : List ℕ). BeginsText (text_at came time l)) (sym is) (text_begins came time b rest fits begins))

-- where the text of a piece begins, a character does
pub text_boundary : (piece text : List ℕ) (front : ℕ) → IsUtf8 text → text ≡ trimmed piece → front ≡ length piece - length text
    → IsCharBoundary piece front
text_boundary piece text front u is at =
    let whole : piece ≡ front_of piece ++ text = front_and_text piece ∙ ap (λ (l : List ℕ). front_of piece ++ l) (sym is) in
    let here : length (front_of piece) ≡ front = omega (arith, at, ap length whole, length-append {A = ℕ}) in
    subst (IsCharBoundary piece) here (IsCharBoundary-at_seam piece (front_of piece) text whole u)

-- after a space one does
pub after_space : (text : List ℕ) (end start : ℕ) → IsUtf8 text → end ≤ length text → start ≤ length (take end text)
    → (0 < start → slice_index (take end text) (start - 1) ≡ space) → IsCharBoundary text start
after_space text end start u within fits at_space =
    elim (eq-zero-or-pos start) [
      | inl none ↦ subst (IsCharBoundary text) (sym none) (IsCharBoundary-start text u)
      | inr some ↦
          let short : start - 1 < end = omega (arith, some, fits, length-take-le end text within) in
          let byte : slice_index text (start - 1) ≡ space = sym (get_or-take end text (start - 1) 0 short) ∙ at_space some in
          let next : start - 1 + 1 ≡ start = omega (arith, some) in
          subst (IsCharBoundary text) next (IsCharBoundary-after_ascii text (start - 1) u (omega (arith, short, within)) (omega (arith, byte)))
    ]

-- before a space, or at the end, one does
pub before_space : (text : List ℕ) (end : ℕ) → end ≤ length text → (end < length text → slice_index text end ≡ space) → IsCharBoundary text end
before_space text end within at_space = (within, λ more high. absurd (omega (arith, high, at_space more)))
