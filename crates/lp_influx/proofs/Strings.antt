-- The values of a portable line as they are spelled: strings, and literals.
use Rattle.std.proofs.Common.{◌≡◌, ◌⊎◌, ℕ, ◌+◌, List, [], ◌∷◌, ◌++◌, length, take, drop, Bool, true, false, not, ◌==◌, ◌&&◌, refl, sym, ap, ◌∙◌, arith, inl, inr, if◌then◌else◌}
use Rattle.std.proofs.Common.{append-nil, append_assoc, eqb-true, take-append-drop, ltb-true, slice_index, nat_lt}
use Rattle.std.proofs.lemmas.{Bool.cases_Bool, Bool.and_parts, Bool.false≢true, List.drop_more}
use Rattle.std.proofs.lemmas.List.Elements.{All-head, All-tail}
use Rattle.std.specs.List.{All}
use Rattle.lp_format.specs.format.{Reading, Text, Value, ◌otherwise◌, backslash, bare_after, body_len, boolean_at, fatal, false_words, float_at, integer_at, is_escaped_after}
use Rattle.lp_format.specs.format.{miss, quotable, quote, read_text, reads, string, string_at, true_words, unsigned_at, value}
use Rattle.lp_format.specs.laws.Meanings.{IsAtStop}
use Rattle.lp_format.proofs.lemmas.tokens.EscapeLemmas.{is_escaped_push}
use Rattle.lp_split.proofs.lemmas.split.ScanLemmas.{before_stop}
use Rattle.lp_values.proofs.lemmas.fields.ReadingLemmas.{reads_parts}
use Rattle.lp_portable.specs.format.Portable.{is_finite, is_unsigned}
use Rattle.lp_influx.proofs.LiteralTexts.{LiteralFront, LiteralText, boolean_text, false_texts, float_text, integer_text, true_texts}

-- Whether a text can stand between quotes: it holds no bare quote, and no backslash is left over at its end. The first argument is whether
-- a backslash is before the text.
abbrev pub is_body : Bool → List ℕ → Bool
is_body escaped [] = not escaped
is_body true (b ∷ body) = is_body false body
is_body false (b ∷ body) = if b == quote then false else is_body (b == backslash) body

-- The text before a bare quote can stand between quotes.
body_is : (front body : List ℕ) → All (λ b. (b == quote) ≡ false) (bare_after front body) → is_escaped_after (front ++ body) ≡ false
    → is_body (is_escaped_after front) body ≡ true
body_is front [] none bare = let plain : is_escaped_after front ≡ false = rw append-nil at bare in rw plain refl
body_is front (b ∷ body) none bare =
    let more : is_escaped_after ((front ++ b ∷ []) ++ body) ≡ false = rw (append_assoc) bare in
    elim (cases_Bool (is_escaped_after front)) [
      | inl escaped ↦
          let next : is_escaped_after (front ++ b ∷ []) ≡ false = is_escaped_push front b ∙ rw escaped refl in
          let here = body_is (front ++ b ∷ []) body (rw escaped at none) more in
          rw escaped (rw next at here)
      | inr plain ↦
          let all : All (λ c. (c == quote) ≡ false) (b ∷ bare_after (front ++ b ∷ []) body) = rw plain at none in
          let next : is_escaped_after (front ++ b ∷ []) ≡ (b == backslash) = is_escaped_push front b ∙ rw plain refl in
          let here = body_is (front ++ b ∷ []) body (All-tail (λ c. (c == quote) ≡ false) b _ all) more in
          rw (plain, All-head (λ c. (c == quote) ≡ false) b _ all) (rw next at here)
    ]

-- a string at the start of a text
pub record StringFront (text : List ℕ) (v : Value Text) (rest : List ℕ) : Type 0 where
  pub body : List ℕ
  pub is : is_body false body ≡ true
  pub whole : text ≡ quote ∷ (body ++ quote ∷ rest)
  pub reads_it : v ≡ string (read_text quotable body)

-- a string that was read
string_front : (text : List ℕ) (v : Value Text) (rest : List ℕ) → string_at text ≡ reads v rest → StringFront text v rest
unfolding string_at is_escaped_after
string_front [] v rest e = absurd (cc)
string_front (b ∷ after) v rest e =
    let n = body_len after in
    elim (cases_Bool (b == quote && nat_lt n (length after))) [
      | inr none ↦ let never = rw none at e in absurd (cc)
      | inl here ↦
          let both = and_parts (b == quote) (nat_lt n (length after)) here in
          let body = take n after in
          let same = reads_parts (string (read_text quotable body)) v (drop (n + 1) after) rest (rw here at e) in
          let next = drop_more after n 0 (ltb-true n (length after) both.1) in
          let joined : body ++ drop n after ≡ after = take-append-drop n after in
          let stop = (before_stop (λ b. b == quote) body (drop n after)).0 (rw joined refl) in
          let at : IsAtStop (λ b. b == quote) body (slice_index after n ∷ drop (n + 1) after) = rw next at stop.at_stop in
          record {
            body = body;
            is = body_is [] body stop.none at.0;
            whole = rw (eqb-true b quote both.0) (ap (λ (t : List ℕ). quote ∷ t) (sym joined ∙ ap (λ (t : List ℕ). body ++ t)
                (next ∙ rw (eqb-true (slice_index after n) quote at.1, same.1) refl)));
            reads_it = sym same.0;
          }
    ]

-- a value as it is spelled: a literal, or a string
pub data ValueFront (text : List ℕ) (v : Value Text) (rest : List ℕ) : Type 0 where
  is_literal : (front : List ℕ) → text ≡ front ++ rest → LiteralText front v → ValueFront text v rest
  is_string : StringFront text v rest → ValueFront text v rest

-- the first of two that does not miss is the one that reads
of_two : {A : Type 0} (r s : Reading A) (x : A) (rest : List ℕ) → (r otherwise s) ≡ reads x rest → (r ≡ reads x rest) ⊎ (s ≡ reads x rest)
of_two miss s x rest e = inr e
of_two (fatal f) s x rest e = absurd (cc)
of_two (reads y after) s x rest e = inl e

-- an unsigned number is no other value
unsigned_only : (text : List ℕ) (v : Value Text) (rest : List ℕ) → unsigned_at text ≡ reads v rest → is_unsigned v ≡ true
unfolding unsigned_at
unsigned_only text v rest e = grind (arith, cases_Bool)

-- each value that is finite and not unsigned is spelled so
pub value_front : (text : List ℕ) (v : Value Text) (rest : List ℕ) → value text ≡ reads v rest → is_unsigned v ≡ false → is_finite v ≡ true
    → ValueFront text v rest
unfolding value
value_front text v rest e signed finite = elim (of_two _ (boolean_at false false_words text) v rest e) [
  | inr word ↦ literal (boolean_text false false_words text v rest false_texts word)
  | inl e1 ↦ elim (of_two _ (boolean_at true true_words text) v rest e1) [
    | inr word ↦ literal (boolean_text true true_words text v rest true_texts word)
    | inl e2 ↦ elim (of_two _ (string_at text) v rest e2) [
      | inr quoted ↦ is_string (string_front text v rest quoted)
      | inl e3 ↦ elim (of_two _ (float_at text) v rest e3) [
        | inr number ↦ literal (float_text text v rest number finite)
        | inl e4 ↦ elim (of_two (integer_at text) (unsigned_at text) v rest e4) [
          | inl number ↦ literal (integer_text text v rest number)
          | inr number ↦ absurd (false≢true (sym signed ∙ unsigned_only text v rest number))
        ]
      ]
    ]
  ]
]
  where
    -- A literal is the text of a value.
    literal : LiteralFront text v rest → ValueFront text v rest
    literal l = is_literal l.front l.whole l.is
