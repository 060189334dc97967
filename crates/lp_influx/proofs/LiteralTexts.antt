-- InfluxDB reads the values of a portable line as the strict reader does, whatever ends them.
use Rattle.std.proofs.Common.{◌≡◌, ◌⊎◌, ℕ, ◌+◌, ◌<◌, List, [], ◌∷◌, ◌++◌, length, take, drop, Bool, true, false, not, ◌==◌, ◌&&◌, refl, sym, ap, ◌∙◌, arith, inl, inr, subst}
use Rattle.std.proofs.Common.{eqb-true, append-nil, append_assoc, take-append-drop, codes, slice_index, length-append}
use Rattle.std.proofs.Math.Seq.{drop-append_seam, take-append_seam}
use Rattle.std.proofs.lemmas.{Bool.cases_Bool, Bool.and_parts, Bool.false≢true, Bool.eqb-false, Bool.not-true, Grind.common_steps}
use Rattle.std.proofs.lemmas.List.Sums.{list_all-from_AllPass}
use Rattle.std.specs.{List.AllByRecursion, List.fold, List.list_all, List.starts_with, Str.Parse.signed_digits_value}
use Rattle.std.proofs.lemmas.{Bool.Decides.Decides-eqb, Slice.Eq.starts_is}
use Rattle.std.proofs.Common.{nat_lt}
use Rattle.lp_format.specs.format.{longer_front, word_len, Text, Value, backslash, boolean, comma, equals, fits_i64, float, float_at, float_len, integer, integer_at}
use Rattle.lp_format.specs.format.{integer_len, is_one_of, letter_i, quote, reads, space, boolean_at}
use Rattle.lp_format.specs.format.{true_words, false_words}
use Rattle.lp_format.proofs.lemmas.literals.FloatLemmas.{Ends, float_bytes, float_front, float_len_float, in_float, minus_no_digit, signed_before, signed_front, signed_some}
use Rattle.lp_format.proofs.lemmas.values.ValueLemmas.{after_byte, fits_from_test, integer_parsed, integer_unmarked}
use Rattle.lp_values.proofs.lemmas.fields.ReadingLemmas.{reads_parts}
use Rattle.lp_portable.specs.format.Portable.{is_finite}
use Rattle.lp_influx.specs.format.InfluxFields.{is_literal_end, literal}

-- a byte that means nothing between the fields
abbrev pub is_plain : ℕ → Bool
is_plain b = not (is_one_of (backslash ∷ quote ∷ equals ∷ comma ∷ space ∷ []) b)

-- a text that is read as this value, whatever ends it
pub record LiteralText (text : List ℕ) (v : Value Text) : Type 0 where
  pub some : 0 < length text
  pub plain : list_all is_plain text ≡ true
  pub reads_it : (rest : List ℕ) → is_literal_end rest ≡ true → literal (text ++ rest) ≡ reads v rest

-- a literal at the start of a text
pub record LiteralFront (text : List ℕ) (v : Value Text) (rest : List ℕ) : Type 0 where
  pub front : List ℕ
  pub whole : text ≡ front ++ rest
  pub is : LiteralText front v

-- The end of a literal is an end as the lemmas about floats have it.
ends_float : (rest : List ℕ) → is_literal_end rest ≡ true → Ends rest
ends_float [] e = refl
ends_float (b ∷ rest) e = grind (arith, cases_Bool)

-- the bytes of floats and integers are plain
plain_bytes : (text : List ℕ) → list_all in_float text ≡ true → list_all is_plain text ≡ true
plain_bytes [] all = refl
plain_bytes (b ∷ text) all =
    let both = and_parts (in_float b) (list_all in_float text) all in
    let here : is_plain b ≡ true = grind (arith, common_steps, both.0) in
    rw (here, plain_bytes text both.1) refl

-- a number, and the letter after an integer
marked_plain : (text : List ℕ) → list_all is_plain text ≡ true → list_all is_plain (text ++ letter_i ∷ []) ≡ true
marked_plain [] all = refl
marked_plain (b ∷ text) all = let both = and_parts (is_plain b) (list_all is_plain text) all in rw (both.0, marked_plain text both.1) refl

-- Facts about an integer that was read.
record IntegerParts (text : List ℕ) (v : Value Text) (rest : List ℕ) : Type 0 where
  some : 0 < integer_len text
  mark : slice_index text (integer_len text) ≡ letter_i
  fits : fits_i64 (signed_digits_value 10 (take (integer_len text) text)) ≡ true
  is : v ≡ integer (signed_digits_value 10 (take (integer_len text) text))
  after : rest ≡ drop (integer_len text + 1) text

-- each has these parts
integer_parts : (text : List ℕ) (v : Value Text) (rest : List ℕ) → integer_at text ≡ reads v rest → IntegerParts text v rest
unfolding integer_at
integer_parts text v rest e =
    let n = integer_len text in
    elim (cases_Bool (not (n == 0) && slice_index text n == letter_i)) [
      | inl here ↦
          let both = and_parts (not (n == 0)) (slice_index text n == letter_i) here in
          elim (cases_Bool (fits_i64 (signed_digits_value 10 (take n text)))) [
            | inl fits ↦
                let same = reads_parts _ v (drop (n + 1) text) rest (rw (here, fits) at e) in
                record {
                  some = omega (arith, eqb-false n 0 (not-true (n == 0) both.0));
                  mark = eqb-true (slice_index text n) letter_i both.1;
                  fits = fits;
                  is = sym same.0;
                  after = sym same.1;
                }
            | inr over ↦ let never = rw (here, over) at e in absurd (cc)
          ]
      | inr none ↦ let never = rw none at e in absurd (cc)
    ]

-- an integer
pub integer_text : (text : List ℕ) (v : Value Text) (rest : List ℕ) → integer_at text ≡ reads v rest → LiteralFront text v rest
unfolding literal
integer_text text v rest e =
    let p = integer_parts text v rest e in
    let n = integer_len text in
    let number = take n text in
    let signed = signed_front (codes "-") text p.some in
    let marked : drop n text ≡ letter_i ∷ rest = after_byte text n 104 p.mark ∙ ap (λ (r : List ℕ). letter_i ∷ r) (sym p.after) in
    let whole : text ≡ (number ++ letter_i ∷ []) ++ rest = rw (append_assoc, ← marked) (sym (take-append-drop n text)) in
    let bytes = list_all-from_AllPass in_float number (float_bytes number (number, [], [], simp append-nil, signed, tt, tt)) in
    record {
      front = number ++ letter_i ∷ [];
      whole = whole;
      is = record {
        some = omega (arith, length-append number (letter_i ∷ []));
        plain = marked_plain number (plain_bytes number bytes);
        reads_it = λ after ends.
            let other = number ++ letter_i ∷ after in
            let len : integer_len other ≡ length number = signed_before (codes "-") number (letter_i ∷ after) minus_no_digit signed ∙ omega arith in
            let front : number ≡ take (integer_len other) other = sym (ap (λ (m : ℕ). take m other) len ∙ take-append_seam number (letter_i ∷ after)) in
            let mark : drop (integer_len other) other ≡ letter_i ∷ after = ap (λ (m : ℕ). drop m other) len ∙ drop-append_seam number (letter_i ∷ after) in
            let read = integer_parsed other number after (signed_digits_value 10 number) front mark (signed_some (codes "-") number signed) (fits_from_test _ p.fits) refl in
            rw (append_assoc, read, p.is, ends) refl;
      };
    }

-- a float that is finite
pub float_text : (text : List ℕ) (v : Value Text) (rest : List ℕ) → float_at text ≡ reads v rest → is_finite v ≡ true → LiteralFront text v rest
unfolding float_at literal
float_text text v rest e finite =
    let n = float_len text in
    elim (cases_Bool (n == 0)) [
      | inl none ↦ let never = rw none at e in absurd (cc)
      | inr some ↦
          let t = take n text in
          let same = reads_parts _ v (drop n text) rest (rw some at e) in
          let is = float_len_float text (omega (arith, eqb-false n 0 some)) in
          let parts : 0 < length t = omega (arith, ap length is.3, length-append is.0 (is.1 ++ is.2), signed_some (codes "-") is.0 is.4) in
          record {
            front = t;
            whole = rw (← same.1) (sym (take-append-drop n text));
            is = record {
              some = parts;
              plain = plain_bytes t (list_all-from_AllPass in_float t (float_bytes t is));
              reads_it = λ after ends.
                  let front = float_front t after is (ends_float after ends) in
                  let no_integer = integer_unmarked (t ++ after) front.no_i in
                  let good : is_finite (float t) ≡ true = ap is_finite same.0 ∙ finite in
                  rw (no_integer, front.reads_it, ends, good) (ap (λ (x : Value Text). reads x after) same.0);
            };
          }
    ]

-- A property holds at each end of a literal if it holds at the end of the text, at a comma and at a space.
by_end : (P : List ℕ → Type 0) → P [] → ((rest : List ℕ) → P (comma ∷ rest)) → ((rest : List ℕ) → P (space ∷ rest))
    → (rest : List ℕ) → is_literal_end rest ≡ true → P rest
by_end P none at_comma at_space [] e = none
by_end P none at_comma at_space (b ∷ rest) e = elim (cases_Bool (comma == b)) [
  | inl is ↦ subst (λ (c : ℕ). P (c ∷ rest)) (eqb-true comma b is) (at_comma rest)
  | inr other ↦ elim (cases_Bool (space == b)) [
    | inl is ↦ subst (λ (c : ℕ). P (c ∷ rest)) (eqb-true space b is) (at_space rest)
    | inr never ↦ absurd (false≢true (rw (other, never) at e))
  ]
]

-- a word for a Boolean is read before each end
abbrev pub ReadsWord : Bool → List ℕ → Type 0
ReadsWord b word = LiteralText word (boolean b)

-- A word that is read before each end of a literal is the text of a boolean.
word : (b : Bool) (text : List ℕ) → 0 < length text → list_all is_plain text ≡ true → literal (text ++ []) ≡ reads (boolean b) []
    → ((rest : List ℕ) → literal (text ++ comma ∷ rest) ≡ reads (boolean b) (comma ∷ rest))
    → ((rest : List ℕ) → literal (text ++ space ∷ rest) ≡ reads (boolean b) (space ∷ rest)) → ReadsWord b text
word b text some plain none at_comma at_space =
    record { some = some; plain = plain; reads_it = by_end (λ rest. literal (text ++ rest) ≡ reads (boolean b) rest) none at_comma at_space }

-- the words for true
pub true_texts : AllByRecursion (ReadsWord true) true_words
unfolding literal integer_at float_at boolean_at
true_texts = (
  word true (codes "true") (omega arith) refl refl (λ r. refl) (λ r. refl),
  (
    word true (codes "True") (omega arith) refl refl (λ r. refl) (λ r. refl),
    (
      word true (codes "TRUE") (omega arith) refl refl (λ r. refl) (λ r. refl),
      (
        word true (codes "t") (omega arith) refl refl (λ r. refl) (λ r. refl),
        (
          word true (codes "T") (omega arith) refl refl (λ r. refl) (λ r. refl),
          tt,
        ),
      ),
    ),
  ),
)

-- the words for false
pub false_texts : AllByRecursion (ReadsWord false) false_words
unfolding literal integer_at float_at boolean_at
false_texts = (
  word false (codes "false") (omega arith) refl refl (λ r. refl) (λ r. refl),
  (
    word false (codes "False") (omega arith) refl refl (λ r. refl) (λ r. refl),
    (
      word false (codes "FALSE") (omega arith) refl refl (λ r. refl) (λ r. refl),
      (
        word false (codes "f") (omega arith) refl refl (λ r. refl) (λ r. refl),
        (
          word false (codes "F") (omega arith) refl refl (λ r. refl) (λ r. refl),
          tt,
        ),
      ),
    ),
  ),
)

module _ (P : List ℕ → Type 0) (text : List ℕ) where
  -- The longest of some words is a word with which the text begins, if it is longer than the front that was found before.
  word_found : (words : List (List ℕ)) (n : ℕ) → AllByRecursion P words
      → (fold (λ (m : ℕ) (word : List ℕ). longer_front text m word) n words ≡ n)
      ⊎ ((word : List ℕ) × P word × (starts_with (λ (a b : ℕ). a == b) text word ≡ true) × (fold (λ (m : ℕ) (word : List ℕ). longer_front text m word) n words ≡ length word))
  word_found [] n all = inl refl
  word_found (w ∷ words) n all = elim (cases_Bool (starts_with (λ (a b : ℕ). a == b) text w && nat_lt n (length w))) [
    | inl here ↦ elim (word_found words (length w) all.1) [
      | inl same ↦ inr (w, all.0, (and_parts _ _ here).0, rw here same)
      | inr later ↦ inr (later.0, later.1, later.2, rw here later.3)
    ]
    | inr other ↦ elim (word_found words n all.1) [
      | inl same ↦ inl (rw other same)
      | inr later ↦ inr (later.0, later.1, later.2, rw other later.3)
    ]
  ]

-- a Boolean
pub boolean_text : (b : Bool) (words : List (List ℕ)) (text : List ℕ) (v : Value Text) (rest : List ℕ) → AllByRecursion (ReadsWord b) words
    → boolean_at b words text ≡ reads v rest → LiteralFront text v rest
unfolding boolean_at
boolean_text b words text v rest all e = elim (cases_Bool (word_len words text == 0)) [
  | inl none ↦ let never = rw none at e in absurd (cc)
  | inr some ↦
      let same = reads_parts (boolean b) v (drop (word_len words text) text) rest (rw some at e) in
      elim (word_found (ReadsWord b) text words 0 all) [
        | inl zero_len ↦ absurd (eqb-false (word_len words text) 0 some zero_len)
        | inr w ↦
            let begins = (starts_is Decides-eqb text w.0 true (sym w.2)).0 refl in
            record {
              front = w.0;
              whole = begins ∙ ap (λ (r : List ℕ). w.0 ++ r) (ap (λ (n : ℕ). drop n text) (sym w.3) ∙ same.1);
              is = subst (LiteralText w.0) same.0 w.1;
            }
      ]
]
