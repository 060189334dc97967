-- What is read of the front of a text is read of it whatever follows, if that begins alike.
use Rattle.std.proofs.Common.{◌≡◌, ◌≢◌, ◌⊎◌, ℕ, ◌+◌, ◌<◌, List, [], ◌∷◌, ◌++◌, length, take, drop, slice_index, Bool, true, false, ◌==◌, refl, sym, ap, ◌∙◌, arith, inl, inr, subst, codes}
use Rattle.std.proofs.Common.{append_assoc, take-append-drop, length-drop, eqb-true, nat_lt, ltb-true, ◌&&◌}
use Rattle.std.proofs.Math.Seq.{drop-append_seam, take-append_seam}
use Rattle.std.proofs.lemmas.{Bool.cases_Bool, Bool.eqb-false, Bool.and_parts, Bool.not-true, Bool.false≢true, List.append_cancel_left}
use Rattle.std.proofs.lemmas.List.Elements.{All-contains, All-from_recursion}
use Rattle.std.specs.{List.AllByRecursion, Str.Parse.digits_value, Str.Parse.signed_digits_value}
use Rattle.lp_format.specs.format.{Reading, Text, Value, Pair, reads, NameKind, name, spelled, spelled_len, is_stop, ends_in_backslash}
use Rattle.lp_format.specs.format.{a_tag_key, a_tag_value, a_field_key, key_value, tag, field, value, integer_at, unsigned_at, float_at, string_at, boolean_at, body_len}
use Rattle.lp_format.specs.format.{integer_len, digits_len, float_len, word_len, true_words, false_words, fits_i64, letter_i, letter_u, quote, comma, space, equals}
use Rattle.lp_format.specs.format.{integer, unsigned, float, boolean, ◌otherwise◌}
use Rattle.lp_format.specs.laws.Meanings.{IsAtStop}
use Rattle.lp_format.proofs.lemmas.literals.FloatLemmas.{Ends, float_len_float, float_reads_back, minus_no_digit, signed_before, signed_front, signed_some, digits_before}
use Rattle.lp_format.proofs.lemmas.names.NameLemmas.{logical_ends, name_reads}
use Rattle.lp_format.proofs.lemmas.read_back.IntegerReadsBack.{unsigned_len}
use Rattle.lp_format.proofs.lemmas.values.ValueLemmas.{after_byte, byte_at_drop, fits_from_test, front_numeral, integer_parsed, integer_unmarked, unsigned_reads}
use Rattle.lp_format.proofs.lemmas.values.ValueForms.{string_form, string_reads}
use Rattle.lp_split.proofs.lemmas.split.ScanLemmas.{before_stop}
use Rattle.influxdb_line_protocol.proofs.lemmas.laws.WordsAndKeys.{word_front_is_word}
use Rattle.lp_values.proofs.lemmas.fields.ReadingLemmas.{name_parts, pair_parts, reads_parts}

-- One text begins as another: with the same byte, or with a space where the other one is empty.
pub data BeginsAlike : List ℕ → List ℕ → Type 0 where
  same_byte : (b : ℕ) (rest other : List ℕ) → BeginsAlike (b ∷ rest) (b ∷ other)
  a_space : (other : List ℕ) → BeginsAlike [] (space ∷ other)

-- Two texts that begin alike begin alike after any front.
pub alike_after : (front rest other : List ℕ) → BeginsAlike rest other → BeginsAlike (front ++ rest) (front ++ other)
alike_after [] rest other alike = alike
alike_after (b ∷ front) rest other alike = same_byte b (front ++ rest) (front ++ other)

-- A value that ends before a text ends before each text that begins alike.
pub alike_ends : (rest other : List ℕ) → Ends rest → BeginsAlike rest other → Ends other
alike_ends _ _ ends (same_byte b rest other) = ends
alike_ends _ _ ends (a_space other) = refl

-- A front of the text is read, and it is read too before each other rest that begins alike.
pub record ReadsFront {A : Type 0} (one : List ℕ → Reading A) (text : List ℕ) (x : A) (rest : List ℕ) : Type 0 where
  pub front : List ℕ
  pub is : text ≡ front ++ rest
  pub again : (other : List ℕ) → BeginsAlike rest other → one (front ++ other) ≡ reads x other

-- The spelling of a name that is read is not empty, and does not end in a backslash.
spelling_ends : (kind : NameKind) (text : List ℕ) (t : Text) (rest : List ℕ) → name kind text ≡ reads t rest
    → (0 < length (spelled kind text)) × (ends_in_backslash (spelled kind text) ≡ false)
unfolding name
spelling_ends kind text t rest e = grind (arith, cases_Bool, eqb-false, logical_ends)

-- A stop after a front is one too if another text follows that begins alike.
stop_stays : (passes : ℕ → Bool) (front rest other : List ℕ) → 0 < length rest → BeginsAlike rest other → IsAtStop passes front rest
    → IsAtStop passes front other
stop_stays passes front _ _ some (same_byte b rest other) at = at
stop_stays passes front _ _ some (a_space other) at = absurd (omega (arith, some))

-- A name that ends before a byte is read too before each other text that begins with this byte.
pub name_front : (kind : NameKind) (text : List ℕ) (t : Text) (rest : List ℕ) → name kind text ≡ reads t rest → 0 < length rest
    → ReadsFront (name kind) text t rest
name_front kind text t rest e some =
    let front = spelled kind text in
    let parts = name_parts kind text t rest e in
    let good = spelling_ends kind text t rest e in
    let is : text ≡ front ++ rest = rw parts.1 (sym (take-append-drop (spelled_len kind text) text)) in
    let stops = (before_stop (is_stop kind) front rest).0 (ap (spelled kind) (sym is)) in
    record {
      front = front;
      is = is;
      again = λ other alike.
          let whole = front ++ other in
          let at : spelled kind whole ≡ front =
          (before_stop (is_stop kind) front other).1 (record { none = stops.none; at_stop = stop_stays (is_stop kind) front rest other some alike stops.at_stop }) in
          let left : drop (spelled_len kind whole) whole ≡ other =
          append_cancel_left front _ other (ap (λ (l : List ℕ). l ++ drop (spelled_len kind whole) whole) (sym at) ∙ take-append-drop (spelled_len kind whole) whole) in
          let read = name_reads kind whole (rw at good.0) (rw at good.1) in
          read ∙ rw (at, left, ← parts.0) refl;
    }

-- A key and its value are read too before each other rest that begins alike, if the value is.
pair_front : {V : Type 0} (kind : NameKind) (part : List ℕ → Reading V) (text : List ℕ) (x : Pair Text V) (rest : List ℕ)
    → key_value kind part text ≡ reads x rest
    → ((from : List ℕ) → part from ≡ reads x.value rest → ReadsFront part from x.value rest) → ReadsFront (key_value kind part) text x rest
pair_front kind part text x rest e fronts =
    let p = pair_parts kind part text x rest e in
    let key = name_front kind text x.key (equals ∷ p.mid) p.key (omega arith) in
    let val = fronts p.mid p.value in
    record {
      front = key.front ++ equals ∷ val.front;
      is = key.is ∙ ap (λ (l : List ℕ). key.front ++ equals ∷ l) val.is ∙ sym (append_assoc key.front (equals ∷ val.front) rest);
      again = λ other alike.
          let read = key.again (equals ∷ (val.front ++ other)) (same_byte equals p.mid (val.front ++ other)) in
          rw (append_assoc key.front (equals ∷ val.front) other, read, val.again other alike) refl;
    }

-- A tag that ends before a byte is read too before each other text that begins with this byte.
pub tag_front : (text : List ℕ) (x : Pair Text Text) (rest : List ℕ) → 0 < length rest → tag text ≡ reads x rest → ReadsFront tag text x rest
unfolding tag
tag_front text x rest some e =
    pair_front a_tag_key (name a_tag_value) text x rest e (λ from read. name_front a_tag_value from x.value rest read some)

-- The parts of an integer that is read: a number in range, an `i` and the rest.
record IntegerParts (text : List ℕ) (v : Value Text) (rest : List ℕ) : Type 0 where
  some : 0 < integer_len text
  mark : slice_index text (integer_len text) ≡ letter_i
  fits : fits_i64 (signed_digits_value 10 (take (integer_len text) text)) ≡ true
  is : v ≡ integer (signed_digits_value 10 (take (integer_len text) text))
  after : rest ≡ drop (integer_len text + 1) text

-- Each integer that is read is a number in range, an `i` and the rest.
integer_parts : (text : List ℕ) (v : Value Text) (rest : List ℕ) → integer_at text ≡ reads v rest → IntegerParts text v rest
unfolding integer_at
integer_parts text v rest e = grind (arith, cases_Bool, and_parts, eqb-false, not-true, eqb-true, reads_parts)

-- An integer is read too before each other text.
integer_front : (text : List ℕ) (v : Value Text) (rest : List ℕ) → integer_at text ≡ reads v rest → ReadsFront value text v rest
unfolding value
integer_front text v rest e =
    let p = integer_parts text v rest e in
    let n = integer_len text in
    let number = take n text in
    let signed = signed_front (codes "-") text p.some in
    let marked : drop n text ≡ letter_i ∷ rest = after_byte text n 104 p.mark ∙ ap (λ (r : List ℕ). letter_i ∷ r) (sym p.after) in
    record {
      front = number ++ letter_i ∷ [];
      is = rw (append_assoc, ← marked) (sym (take-append-drop n text));
      again = λ other alike.
          let whole = number ++ letter_i ∷ other in
          let len : integer_len whole ≡ length number = signed_before (codes "-") number (letter_i ∷ other) minus_no_digit signed ∙ omega arith in
          let front : number ≡ take (integer_len whole) whole = sym (ap (λ (m : ℕ). take m whole) len ∙ take-append_seam number (letter_i ∷ other)) in
          let mark : drop (integer_len whole) whole ≡ letter_i ∷ other = ap (λ (m : ℕ). drop m whole) len ∙ drop-append_seam number (letter_i ∷ other) in
          let read = integer_parsed whole number other (signed_digits_value 10 number) front mark (signed_some (codes "-") number signed) (fits_from_test _ p.fits) refl in
          rw (append_assoc, read, p.is) refl;
    }

-- The parts of an unsigned integer that is read: digits in range, a `u` and the rest.
record UnsignedParts (text : List ℕ) (v : Value Text) (rest : List ℕ) : Type 0 where
  some : digits_len text ≢ 0
  mark : slice_index text (digits_len text) ≡ letter_u
  fits : digits_value 10 (take (digits_len text) text) < 18446744073709551616
  is : v ≡ unsigned (digits_value 10 (take (digits_len text) text))
  after : rest ≡ drop (digits_len text + 1) text

-- Each unsigned integer that is read is digits in range, a `u` and the rest.
unsigned_parts : (text : List ℕ) (v : Value Text) (rest : List ℕ) → unsigned_at text ≡ reads v rest → UnsignedParts text v rest
unfolding unsigned_at
unsigned_parts text v rest e = grind (arith, cases_Bool, and_parts, eqb-false, not-true, eqb-true, reads_parts, ltb-true)

-- An unsigned integer is read too before each other text.
unsigned_front : (text : List ℕ) (v : Value Text) (rest : List ℕ) → unsigned_at text ≡ reads v rest → ReadsFront value text v rest
unfolding value
unsigned_front text v rest e =
    let p = unsigned_parts text v rest e in
    let n = digits_len text in
    let number = take n text in
    let numeral = front_numeral text p.some in
    let marked : drop n text ≡ letter_u ∷ rest = after_byte text n 116 p.mark ∙ ap (λ (r : List ℕ). letter_u ∷ r) (sym p.after) in
    record {
      front = number ++ letter_u ∷ [];
      is = rw (append_assoc, ← marked) (sym (take-append-drop n text));
      again = λ other alike.
          let whole = number ++ letter_u ∷ other in
          let len : digits_len whole ≡ length number = omega (arith, digits_before number (letter_u ∷ other) numeral.1) in
          let int_len : integer_len whole ≡ length number = unsigned_len number (letter_u ∷ other) numeral refl in
          let after : drop (length number) whole ≡ letter_u ∷ other = drop-append_seam number (letter_u ∷ other) in
          let at = byte_at_drop whole other (length number) letter_u after in
          let no_integer = integer_unmarked whole (rw (int_len, at.0) (λ same. absurd (omega (arith, same)))) in
          let front : take (length number) whole ≡ number = take-append_seam number (letter_u ∷ other) in
          let read = unsigned_reads whole (rw len numeral.0) (rw len at.0) (rw (len, front) p.fits) in
          rw (append_assoc, no_integer, read, len, front, at.1, p.is) refl;
    }

-- A float is read too before each other rest that ends it.
float_front : (text : List ℕ) (v : Value Text) (rest : List ℕ) → Ends rest → float_at text ≡ reads v rest → ReadsFront value text v rest
unfolding float_at
float_front text v rest ends e = elim (cases_Bool (float_len text == 0)) [
  | inl none ↦ let never = rw none at e in absurd (cc)
  | inr some ↦
      let n = float_len text in
      let same = reads_parts (float (take n text)) v (drop n text) rest (rw some at e) in
      let is = float_len_float text (omega (arith, eqb-false n 0 some)) in
      record {
        front = take n text;
        is = rw (← same.1) (sym (take-append-drop n text));
        again = λ other alike. rw (← same.0) (float_reads_back (take n text) other is (alike_ends rest other ends alike));
      }
]

-- A string is read too before each other text.
string_front : (text : List ℕ) (v : Value Text) (rest : List ℕ) → string_at text ≡ reads v rest → ReadsFront value text v rest
unfolding string_at
string_front [] v rest e = absurd (cc)
string_front (b ∷ after) v rest e = elim (cases_Bool (b == quote && nat_lt (body_len after) (length after))) [
  | inl here ↦
      let n = body_len after in
      let both = and_parts (b == quote) (nat_lt n (length after)) here in
      let is = eqb-true b quote both.0 in
      let same = reads_parts _ v (drop (n + 1) after) rest (rw here at e) in
      let body = take n after in
      let closing = (before_stop (λ c. c == quote) body (drop n after)).0 (ap (λ (l : List ℕ). take (body_len l) l) (take-append-drop n after)) in
      let closed : drop n after ≡ quote ∷ rest = closed_by n after rest (ltb-true _ _ both.1) same.1 closing.at_stop in
      let stop = rw closed at closing.at_stop in
      record {
        front = quote ∷ (body ++ quote ∷ []);
        is = rw (is, append_assoc, ← closed) (ap (λ (l : List ℕ). quote ∷ l) (sym (take-append-drop n after)));
        again = λ other alike.
            let more = body ++ quote ∷ other in
            let at : take (body_len more) more ≡ body = (before_stop (λ c. c == quote) body (quote ∷ other)).1 (record { none = closing.none; at_stop = stop }) in
            let left : drop (body_len more) more ≡ quote ∷ other =
            append_cancel_left body _ (quote ∷ other) (ap (λ (l : List ℕ). l ++ drop (body_len more) more) (sym at) ∙ take-append-drop (body_len more) more) in
            let read = string_reads (quote ∷ more) more other refl left in
            rw (append_assoc body (quote ∷ []) other, string_form (quote ∷ more) refl, read, at) (ap (λ (w : Value Text). reads w other) same.0);
      }
  | inr none ↦ let never = rw none at e in absurd (cc)
]
  where
    -- the body of a string that is closed ends before a quote
    closed_by : (n : ℕ) (text rest : List ℕ) → n < length text → drop (n + 1) text ≡ rest
        → IsAtStop (λ c. c == quote) (take n text) (drop n text) → drop n text ≡ quote ∷ rest
    closed_by n text rest within left at = first_is (drop n text) refl at
      where
        -- what follows the body of a string begins with its closing quote
        first_is : (after : List ℕ) → drop n text ≡ after → IsAtStop (λ c. c == quote) (take n text) after → after ≡ quote ∷ rest
        first_is [] is at = absurd (omega (arith, within, ap length is, length-drop n text))
        first_is (b ∷ more) is at = rw (eqb-true b quote at.1, sym (byte_at_drop text more n b is).1 ∙ left) refl

-- A word is read as a Boolean before each text that ends a value.
abbrev ReadsWord : Bool → List ℕ → Type 0
ReadsWord b word = (rest : List ℕ) → Ends rest → value (word ++ rest) ≡ reads (boolean b) rest

-- A statement about each text that ends a value holds if it holds for nothing, and for a text that begins with NUL, a comma or a space.
by_end : (P : List ℕ → Type 0) → P [] → ((rest : List ℕ) → P (0 ∷ rest)) → ((rest : List ℕ) → P (comma ∷ rest)) → ((rest : List ℕ) → P (space ∷ rest))
    → (rest : List ℕ) → Ends rest → P rest
by_end P none at_nul at_comma at_space [] e = none
by_end P none at_nul at_comma at_space (b ∷ rest) e = elim (cases_Bool (0 == b)) [
  | inl is ↦ subst (λ (c : ℕ). P (c ∷ rest)) (eqb-true 0 b is) (at_nul rest)
  | inr no_nul ↦ elim (cases_Bool (comma == b)) [
    | inl is ↦ subst (λ (c : ℕ). P (c ∷ rest)) (eqb-true comma b is) (at_comma rest)
    | inr no_comma ↦ elim (cases_Bool (space == b)) [
      | inl is ↦ subst (λ (c : ℕ). P (c ∷ rest)) (eqb-true space b is) (at_space rest)
      | inr never ↦ absurd (false≢true (rw (no_nul, no_comma, never) at e))
    ]
  ]
]

-- The words for true are read as true.
true_words_read : AllByRecursion (ReadsWord true) true_words
unfolding value integer_at unsigned_at float_at string_at boolean_at
true_words_read = (
  by_end (λ r. value (codes "true" ++ r) ≡ reads (boolean true) r) refl (λ r. refl) (λ r. refl) (λ r. refl),
  (
    by_end (λ r. value (codes "True" ++ r) ≡ reads (boolean true) r) refl (λ r. refl) (λ r. refl) (λ r. refl),
    (
      by_end (λ r. value (codes "TRUE" ++ r) ≡ reads (boolean true) r) refl (λ r. refl) (λ r. refl) (λ r. refl),
      (
        by_end (λ r. value (codes "t" ++ r) ≡ reads (boolean true) r) refl (λ r. refl) (λ r. refl) (λ r. refl),
        (by_end (λ r. value (codes "T" ++ r) ≡ reads (boolean true) r) refl (λ r. refl) (λ r. refl) (λ r. refl), tt),
      ),
    ),
  ),
)

-- The words for false are read as false.
false_words_read : AllByRecursion (ReadsWord false) false_words
unfolding value integer_at unsigned_at float_at string_at boolean_at
false_words_read = (
  by_end (λ r. value (codes "false" ++ r) ≡ reads (boolean false) r) refl (λ r. refl) (λ r. refl) (λ r. refl),
  (
    by_end (λ r. value (codes "False" ++ r) ≡ reads (boolean false) r) refl (λ r. refl) (λ r. refl) (λ r. refl),
    (
      by_end (λ r. value (codes "FALSE" ++ r) ≡ reads (boolean false) r) refl (λ r. refl) (λ r. refl) (λ r. refl),
      (
        by_end (λ r. value (codes "f" ++ r) ≡ reads (boolean false) r) refl (λ r. refl) (λ r. refl) (λ r. refl),
        (by_end (λ r. value (codes "F" ++ r) ≡ reads (boolean false) r) refl (λ r. refl) (λ r. refl) (λ r. refl), tt),
      ),
    ),
  ),
)

-- A Boolean is read too before each other rest that ends it.
boolean_front : (b : Bool) (words : List (List ℕ)) → AllByRecursion (ReadsWord b) words → (text : List ℕ) (v : Value Text) (rest : List ℕ)
    → Ends rest → boolean_at b words text ≡ reads v rest → ReadsFront value text v rest
unfolding boolean_at
boolean_front b words all text v rest ends e = elim (cases_Bool (word_len words text == 0)) [
  | inl none ↦ let never = rw none at e in absurd (cc)
  | inr some ↦
      let n = word_len words text in
      let same = reads_parts (boolean b) v (drop n text) rest (rw some at e) in
      let word = word_front_is_word words text (omega (arith, eqb-false n 0 some)) in
      let read = All-contains (ReadsWord b) words (take n text) (All-from_recursion (ReadsWord b) words all) word in
      record {
        front = take n text;
        is = rw (← same.1) (sym (take-append-drop n text));
        again = λ other alike. rw (← same.0) (read other (alike_ends rest other ends alike));
      }
]

-- What the first of two readings that does not miss reads, one of the two reads.
one_of_two : {A : Type 0} (r s : Reading A) (x : A) (rest : List ℕ) → (r otherwise s) ≡ reads x rest → (r ≡ reads x rest) ⊎ (s ≡ reads x rest)
one_of_two r s x rest e = grind arith

-- A value is read too before each other rest that ends it.
value_front : (text : List ℕ) (v : Value Text) (rest : List ℕ) → Ends rest → value text ≡ reads v rest → ReadsFront value text v rest
unfolding value
value_front text v rest ends e = elim (one_of_two _ (boolean_at false false_words text) v rest e) [
  | inr fails ↦ boolean_front false false_words false_words_read text v rest ends fails
  | inl some ↦ elim (one_of_two _ (boolean_at true true_words text) v rest some) [
    | inr holds ↦ boolean_front true true_words true_words_read text v rest ends holds
    | inl other ↦ elim (one_of_two _ (string_at text) v rest other) [
      | inr quoted ↦ string_front text v rest quoted
      | inl number ↦ elim (one_of_two _ (float_at text) v rest number) [
        | inr point ↦ float_front text v rest ends point
        | inl whole ↦ elim (one_of_two (integer_at text) (unsigned_at text) v rest whole) [
          | inl signed ↦ integer_front text v rest signed
          | inr plain ↦ unsigned_front text v rest plain
        ]
      ]
    ]
  ]
]

-- A field is read too before each other rest that ends its value.
pub field_front : (text : List ℕ) (x : Pair Text (Value Text)) (rest : List ℕ) → Ends rest → field text ≡ reads x rest → ReadsFront field text x rest
unfolding field
field_front text x rest ends e = pair_front a_field_key value text x rest e (λ from read. value_front from x.value rest ends read)
