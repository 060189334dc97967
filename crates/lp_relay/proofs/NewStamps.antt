-- A timestamp that is put in the place of another one is read as its time.
use Rattle.std.proofs.Common.{◌≡◌, ℕ, suc, ℤ, ◌+◌, ◌-◌, ◌<◌, ◌≤◌, List, [], ◌∷◌, ◌++◌, length, take, drop, get_or, Bool, true, false, not, ◌==◌, ◌||◌, refl, sym, ap, ◌∙◌, arith, inl, inr, subst, codes}
use Rattle.std.proofs.Common.{Option, Some, None, Ok, Err, Result, take_all, append_assoc, append-nil, take-append-drop, length-append, eqb-true, ne_eqb, one-add, get_or-append-add}
use Rattle.std.proofs.Math.{Bool.or-true, Seq.drop-append_seam, Seq.take-append_seam}
use Rattle.std.proofs.lemmas.{Bool.cases_Bool, Bool.eqb-false, Bool.or_parts, Bool.and_parts, Grind.common_steps}
use Rattle.std.proofs.lemmas.List.Sums.{AllPass-from_list_all, list_all-from_AllPass, suffix_len_is}
use Rattle.std.proofs.lemmas.List.Folds.{length-prefix_len, list_all-append}
use Rattle.std.proofs.lemmas.List.{drop_all, get_or_append_left, get_or-append_right}
use Rattle.std.specs.{Fmt.signed_decimal, List.AllPass, List.list_all, List.suffix_len, Str.Parse.signed_digits_value}
use Rattle.lp_format.specs.format.{IsSigned, fits_i64, integer_len, digits_len, space, spaces, timestamp, Read, Fault}
use Rattle.lp_format.proofs.lemmas.literals.FloatLemmas.{float_bytes, in_float, signed_front, signed_some}
use Rattle.lp_format.proofs.lemmas.read_back.IntegerReadsBack.{integer_written}
use Rattle.lp_relay.proofs.ReadFronts.{BeginsAlike, BeginsAlike.a_space, BeginsAlike.same_byte}
use Rattle.lp_conditions.specs.LineTimes.{text_at, word_end, word_start}

-- A text holds spaces and no other byte.
abbrev pub AreSpaces : List ℕ → Type 0
AreSpaces text = list_all (λ b. b == space) text ≡ true

-- The spaces at the start of a text are spaces.
pub front_spaces : (text : List ℕ) → AreSpaces (take (spaces text) text)
front_spaces [] = refl
front_spaces (b ∷ text) = elim (cases_Bool (b == space)) [
  | inl here ↦ rw (here, one-add, here) (front_spaces text)
  | inr other ↦ rw other refl
]

-- Before a text that begins with no space, the spaces at the start of a text are counted to the last one.
pub spaces_before : (gap rest : List ℕ) → AreSpaces gap → spaces rest ≡ 0 → spaces (gap ++ rest) ≡ length gap
spaces_before [] rest are none = none
spaces_before (b ∷ gap) rest are none =
    let both = and_parts (b == space) (list_all (λ c. c == space) gap) are in
    rw (both.0, spaces_before gap rest both.1 none, one-add) refl

-- No space is left after the spaces at the start of a text.
pub spaces_after : (text : List ℕ) → spaces (drop (spaces text) text) ≡ 0
spaces_after [] = refl
spaces_after (b ∷ text) = elim (cases_Bool (b == space)) [
  | inl here ↦ rw (here, one-add) (spaces_after text)
  | inr other ↦ rw (other, other) refl
]

-- The last byte of two texts that are joined is that of the second.
last_byte : (front last : List ℕ) → 0 < length last → get_or (front ++ last) (length (front ++ last) - 1) 0 ≡ get_or last (length last - 1) 0
last_byte front last some =
    let place : length (front ++ last) - 1 ≡ length front + (length last - 1) = omega (arith, length-append front last, some) in
    rw place (get_or-append-add front last (length last - 1) 0)

-- The longest end of a text whose bytes all pass a test is this one, if its bytes pass and the byte before it does not.
suffix_of : (passes : ℕ → Bool) (front last : List ℕ) → 0 < length front → passes (get_or front (length front - 1) 0) ≡ false
    → AllPass passes last → suffix_len passes (front ++ last) ≡ length last
suffix_of passes front last some stops all =
    let n = length front in
    let whole = front ++ last in
    let len : length whole ≡ n + length last = length-append front last in
    let passing : (k : ℕ) → n ≤ k → k < length whole → passes (get_or whole k 0) ≡ true = λ k more within.
    rw (get_or-append_right front last n k 0 refl more) (all (k - n) 0 (omega (arith, within, more, len))) in
    let before : passes (get_or whole (n - 1) 0) ≡ false = rw (get_or_append_left front last 0 (n - 1) (omega (arith, some))) stops in
    omega (arith, suffix_len_is passes whole n 0 (omega (arith, len)) passing (λ s. before), len)

-- The bytes of a number are no spaces.
number_bytes : (number : List ℕ) → IsSigned (codes "-") number → AllPass (λ b. not (b == space)) number
number_bytes number signed i d within =
    let byte = float_bytes number (number, [], [], simp append-nil, signed, tt, tt) i d within in
    grind (arith, common_steps)

-- The last word of a text, between spaces, is replaced by a time.
pub word_replaced : (front gap number ends : List ℕ) (came time : ℤ) → AreSpaces gap → 0 < length gap → IsSigned (codes "-") number → AreSpaces ends
    → text_at (Some came) time (front ++ (gap ++ (number ++ ends))) ≡ front ++ (gap ++ (signed_decimal time ++ ends))
word_replaced front gap number ends came time are some signed spaced =
    let before = front ++ gap in
    let words = before ++ number in
    let text = words ++ ends in
    let whole : front ++ (gap ++ (number ++ ends)) ≡ text = simp append_assoc in
    let digits = signed_some (codes "-") number signed in
    let bytes = number_bytes number signed in
    let last : (get_or words (length words - 1) 0 == space) ≡ false =
    rw (last_byte before number digits) (let byte = bytes (length number - 1) 0 (omega (arith, digits)) in grind (arith, common_steps)) in
    let end : word_end text ≡ length words =
    omega (arith, suffix_of (λ b. b == space) words ends (omega (arith, digits, length-append before number)) last (AllPass-from_list_all (λ b. b == space) ends spaced), length-append words ends) in
    let inner : take (word_end text) text ≡ words = rw end (take-append_seam words ends) in
    let gap_last : not (get_or before (length before - 1) 0 == space) ≡ false =
    rw (last_byte front gap some, AllPass-from_list_all (λ b. b == space) gap are (length gap - 1) 0 (omega (arith, some))) refl in
    let start : word_start words ≡ length before =
    omega (arith, suffix_of (λ b. not (b == space)) before number (omega (arith, some, length-append front gap)) gap_last bytes, length-append before number) in
    let cut : take (length before) text ≡ before = rw (append_assoc before number ends) (take-append_seam before (number ++ ends)) in
    rw (whole, inner, start, end, cut, drop-append_seam words ends) (simp append_assoc)

-- The parts of a timestamp that is read to the end of a text: one space or more, a number, and spaces.
record StampParts (text : List ℕ) : Type 0 where
  gap : List ℕ
  number : List ℕ
  ends : List ℕ
  is : text ≡ gap ++ (number ++ ends)
  gap_spaces : AreSpaces gap
  some : 0 < length gap
  signed : IsSigned (codes "-") number
  end_spaces : AreSpaces ends

-- The time of a timestamp that is read.
abbrev time_of : Result (Read (Option ℤ)) Fault → Option ℤ
time_of (Ok stamp) = stamp.value
time_of (Err fault) = None

-- What is left after a timestamp.
abbrev left_after : Result (Read (Option ℤ)) Fault → List ℕ
left_after (Ok stamp) = stamp.rest
left_after (Err fault) = []

-- A line without a time has not this time.
none_is_no_time : (came : ℤ) → (let none : Option ℤ = None in none) ≡ Some came → ⊥
none_is_no_time came e = absurd (cc)

-- Each timestamp that is read to the end of a text is spaces, a number and spaces.
stamp_parts : (text : List ℕ) (came : ℤ) → timestamp text ≡ Ok (record { value = Some came; rest = [] }) → StampParts text
stamp_parts text came e =
    let after = drop (spaces text) text in
    let n = integer_len after in
    let number = take n after in
    let rest = drop n after in
    elim (cases_Bool (spaces text == 0 || n == 0)) [
      | inl none ↦ absurd (none_is_no_time came (ap time_of (rw none at e)))
      | inr some ↦ elim (cases_Bool (fits_i64 (signed_digits_value 10 number))) [
        | inl fits ↦
            let read = rw (some, fits) at e in
            let left : drop (spaces rest) rest ≡ [] = ap left_after read in
            let both = or_parts (spaces text == 0) (n == 0) some in
            let all : take (spaces rest) rest ≡ rest = sym (append-nil (take (spaces rest) rest)) ∙ ap (λ (l : List ℕ). take (spaces rest) rest ++ l) (sym left) ∙ take-append-drop (spaces rest) rest in
            record {
              gap = take (spaces text) text;
              number = number;
              ends = rest;
              is = sym (take-append-drop (spaces text) text) ∙ ap (λ (l : List ℕ). take (spaces text) text ++ l) (sym (take-append-drop n after));
              gap_spaces = front_spaces text;
              some = omega (arith, length-prefix_len (λ b. b == space) text, eqb-false (spaces text) 0 both.0);
              signed = signed_front (codes "-") after (omega (arith, eqb-false n 0 both.1));
              end_spaces = subst AreSpaces all (front_spaces rest);
            }
        | inr over ↦ absurd (none_is_no_time came (ap time_of (rw (some, over) at e)))
      ]
    ]

-- Nothing is left of a text that is read without a timestamp.
no_stamp : (text : List ℕ) → timestamp text ≡ Ok (record { value = None; rest = [] }) → text ≡ []
no_stamp text e = grind (arith, cases_Bool)

-- A time between spaces is read as a timestamp.
pub stamp_reads : (gap ends : List ℕ) (time : ℤ) → AreSpaces gap → 0 < length gap → AreSpaces ends → fits_i64 time ≡ true
    → timestamp (gap ++ (signed_decimal time ++ ends)) ≡ Ok (record { value = Some time; rest = [] })
stamp_reads gap ends time are some spaced fits =
    let number = signed_decimal time in
    let after = number ++ ends in
    let written = integer_written time fits in
    let gap_len : spaces (gap ++ after) ≡ length gap = spaces_before gap after are (no_space_first number ends written.some written.no_space) in
    let rest : drop (length gap) (gap ++ after) ≡ after = drop-append_seam gap after in
    let len : integer_len after ≡ length number = written.len ends (no_digits ends spaced) in
    let all : spaces ends ≡ length ends = ap spaces (sym (append-nil ends)) ∙ spaces_before ends [] spaced refl in
    rw (
      gap_len,
      rest,
      len,
      ne_eqb (length gap) 0 (λ none. absurd (omega (arith, some, none))),
      ne_eqb (length number) 0 (λ none. absurd (omega (arith, written.some, none))),
      take-append_seam number ends,
      drop-append_seam number ends,
      written.value,
      fits,
      all,
      drop_all (length ends) ends (omega arith),
    ) refl
  where
    -- a text that begins with bytes that are no spaces begins with no space
    no_space_first : (front rest : List ℕ) → 0 < length front → spaces front ≡ 0 → spaces (front ++ rest) ≡ 0
    no_space_first [] rest some none = absurd (omega (arith, some))
    no_space_first (b ∷ front) rest some none = elim (cases_Bool (b == space)) [
      | inl here ↦ let more : suc (spaces front) ≡ 0 = rw (here, one-add) at none in absurd (omega (arith, more))
      | inr other ↦ rw other refl
    ]

    -- spaces are no digits
    no_digits : (text : List ℕ) → AreSpaces text → digits_len text ≡ 0
    no_digits [] are = refl
    no_digits (b ∷ text) are = rw (eqb-true b space (and_parts (b == space) (list_all (λ c. c == space) text) are).0) refl

-- A byte that a timestamp can hold, or a space before or after it.
abbrev pub in_stamp : ℕ → Bool
in_stamp b = b == space || in_float b

-- A text of bytes that a timestamp can hold, and of spaces.
abbrev pub IsStamp : List ℕ → Type 0
IsStamp text = list_all in_stamp text ≡ true

-- Spaces are bytes that can stand in or around a timestamp.
spaces_stamp : (text : List ℕ) → AreSpaces text → IsStamp text
spaces_stamp [] are = refl
spaces_stamp (b ∷ text) are =
    let both = and_parts (b == space) (list_all (λ c. c == space) text) are in rw (both.0, spaces_stamp text both.1) refl

-- The bytes of a number can stand in a timestamp.
number_stamp : (number : List ℕ) → IsSigned (codes "-") number → IsStamp number
number_stamp number signed = held number (list_all-from_AllPass in_float number (float_bytes number (number, [], [], simp append-nil, signed, tt, tt)))
  where
    -- bytes that a float can hold can stand in a timestamp
    held : (text : List ℕ) → list_all in_float text ≡ true → IsStamp text
    held [] all = refl
    held (b ∷ text) all =
        let both = and_parts (in_float b) (list_all in_float text) all in rw (both.0, held text both.1, or-true (b == space)) refl

-- The bytes with which a time in range is written can stand in a timestamp.
time_stamp : (time : ℤ) → fits_i64 time ≡ true → IsStamp (signed_decimal time)
time_stamp time fits =
    let number = signed_decimal time in
    let written = integer_written time fits in
    let len : integer_len number ≡ length number = rw append-nil at (written.len [] refl) in
    let signed = signed_front (codes "-") number (omega (arith, len, written.some)) in
    number_stamp number (subst (IsSigned (codes "-")) (take_all (integer_len number) number (omega (arith, len))) signed)

-- Two texts of a timestamp and spaces are together such a text.
joined_stamp : (front text : List ℕ) → IsStamp front → IsStamp text → IsStamp (front ++ text)
joined_stamp front text are is = rw (list_all-append in_stamp front text, are, is) refl

-- What follows the fields of a line, and the text with another time that takes its place, after whatever front.
pub record NewStamp (came : Option ℤ) (time : ℤ) (rest : List ℕ) : Type 0 where
  pub more : List ℕ
  pub ends : (other : List ℕ) → BeginsAlike rest (space ∷ other)
  pub replaced : (front : List ℕ) → text_at came time (front ++ rest) ≡ front ++ space ∷ more
  pub old_bytes : IsStamp rest
  pub new_bytes : IsStamp more
  pub reads_it : timestamp (space ∷ more) ≡ Ok (record { value = Some time; rest = [] })

-- One space or more are a space and other spaces.
a_gap : (gap : List ℕ) → AreSpaces gap → 0 < length gap → (more : List ℕ) × (gap ≡ space ∷ more)
a_gap [] are some = absurd (omega (arith, some))
a_gap (b ∷ gap) are some = (gap, ap (λ (c : ℕ). c ∷ gap) (eqb-true b space (and_parts (b == space) (list_all (λ c. c == space) gap) are).0))

-- The spaces after the first of them are spaces.
gap_rest : (gap more : List ℕ) → gap ≡ space ∷ more → AreSpaces gap → AreSpaces more
gap_rest gap more is are = ap (list_all (λ c. c == space)) (sym is) ∙ are

-- What follows the fields of a line can have another time, whether it has one or not.
pub new_stamp : (came : Option ℤ) (time : ℤ) (rest : List ℕ) → timestamp rest ≡ Ok (record { value = came; rest = [] }) → fits_i64 time ≡ true
    → NewStamp came time rest
new_stamp None time rest e fits =
    let none = no_stamp rest e in
    record {
      more = signed_decimal time;
      ends = λ other. subst (λ (l : List ℕ). BeginsAlike l (space ∷ other)) (sym none) (a_space other);
      replaced = λ front. rw (none, append-nil) refl;
      old_bytes = rw none refl;
      new_bytes = time_stamp time fits;
      reads_it = rw append-nil at (stamp_reads (space ∷ []) [] time refl (omega arith) refl fits);
    }
new_stamp (Some came) time rest e fits =
    let p = stamp_parts rest came e in
    let g = a_gap p.gap p.gap_spaces p.some in
    let number = signed_decimal time in
    let more = g.0 ++ (number ++ p.ends) in
    let new : p.gap ++ (number ++ p.ends) ≡ space ∷ more = ap (λ (l : List ℕ). l ++ (number ++ p.ends)) g.1 in
    let old : space ∷ (g.0 ++ (p.number ++ p.ends)) ≡ rest = sym (p.is ∙ ap (λ (l : List ℕ). l ++ (p.number ++ p.ends)) g.1) in
    record {
      more = more;
      ends = λ other. subst (λ (l : List ℕ). BeginsAlike l (space ∷ other)) old (same_byte space (g.0 ++ (p.number ++ p.ends)) other);
      replaced = λ front.
          ap (λ (l : List ℕ). text_at (Some came) time (front ++ l)) p.is
          ∙ word_replaced front p.gap p.number p.ends came time p.gap_spaces p.some p.signed p.end_spaces ∙ ap (λ (l : List ℕ). front ++ l) new;
      old_bytes = rw p.is (joined_stamp p.gap _ (spaces_stamp p.gap p.gap_spaces) (joined_stamp p.number _ (number_stamp p.number p.signed) (spaces_stamp p.ends p.end_spaces)));
      new_bytes = joined_stamp g.0 _ (spaces_stamp g.0 (gap_rest p.gap g.0 g.1 p.gap_spaces)) (joined_stamp number _ (time_stamp time fits) (spaces_stamp p.ends p.end_spaces));
      reads_it = ap timestamp (sym new) ∙ stamp_reads p.gap p.ends time p.gap_spaces p.some p.end_spaces fits;
    }
