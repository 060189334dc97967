-- At the start of a portable line, InfluxDB's reader drops the same bytes as trimming.
use Rattle.std.proofs.Common.{◌≡◌, ◌≢◌, ℕ, List, [], ◌∷◌, ◌++◌, Bool, true, false, ◌==◌, ◌||◌, ◌&&◌, refl, ◌∙◌, arith, inl, inr, All}
use Rattle.std.proofs.Common.{append-nil, append_assoc, ne_eqb, one-add}
use Rattle.std.proofs.lemmas.{Bool.cases_Bool, Bool.false≢true, Grind.common_steps}
use Rattle.std.proofs.lemmas.List.Elements.{All-head, All-tail}
use Rattle.lp_format.specs.format.{HasNoNewline, IsClosed, IsCutPiece, Strict, backslash, bare, bare_after, begins_comment, hash, is_escaped_after, is_one_of, newline}
use Rattle.lp_format.specs.format.{nul, quote, space, tab}
use Rattle.lp_format.specs.format.Piece.{EndsPlain, EndsPlain.first, EndsPlain.later}
use Rattle.lp_format.proofs.lemmas.line.TrimLemmas.{left_of, skip_comment}
use Rattle.lp_format.proofs.lemmas.tokens.EscapeLemmas.{is_escaped_push}
use Rattle.lp_portable.specs.format.Portable.{begins_with}
use Rattle.lp_portable.proofs.HeldBytes.{neither}
use Rattle.lp_influx.specs.format.InfluxLines.{without_gap}

-- whether a text begins with blanks and a newline
abbrev is_early : List ℕ → Bool
is_early [] = false
is_early (b ∷ text) = b == newline || (is_one_of (space ∷ tab ∷ []) b && is_early text)

-- If neither of two texts begins with blanks and a newline, the joined text does not either.
early_append : (xs ys : List ℕ) → is_early xs ≡ false → is_early ys ≡ false → is_early (xs ++ ys) ≡ false
early_append [] ys h k = k
early_append (b ∷ xs) ys h k = elim (cases_Bool (is_one_of (space ∷ tab ∷ []) b)) [
  | inl blank ↦
      let both = neither (b == newline) (is_early xs) (rw blank at h) in
      rw (both.0, blank) (early_append xs ys both.1 k)
  | inr other ↦ let both = neither (b == newline) false (rw other at h) in rw (both.0, other) refl
]

-- a blank is no backslash
blank_plain : (b : ℕ) → is_one_of (space ∷ tab ∷ []) b ≡ true → (b == backslash) ≡ false
blank_plain b h = grind (arith, common_steps, cases_Bool)

-- a text without a bare newline does not begin so
early_bare : (front text : List ℕ) → is_escaped_after front ≡ false → All (λ b. b ≢ newline) (bare_after front text) → is_early text ≡ false
early_bare front [] plain none = refl
early_bare front (b ∷ text) plain none =
    let all : All (λ c. c ≢ newline) (b ∷ bare_after (front ++ b ∷ []) text) = rw plain at none in
    let here = ne_eqb b newline (All-head (λ c. c ≢ newline) b _ all) in
    elim (cases_Bool (is_one_of (space ∷ tab ∷ []) b)) [
      | inl blank ↦
          let next : is_escaped_after (front ++ b ∷ []) ≡ false = is_escaped_push front b ∙ rw (plain, blank_plain b blank) refl in
          rw (here, blank) (early_bare (front ++ b ∷ []) text next (All-tail (λ c. c ≢ newline) b _ all))
      | inr other ↦ rw (here, other) refl
    ]

-- the bytes of a head are no newlines
head_none : (bytes : List ℕ) → All (λ b. (b ≢ space) × (b ≢ newline)) bytes → All (λ b. b ≢ newline) bytes
head_none bytes h = λ i d l. (h i d l).1

-- A closed piece does not begin with blanks and a newline.
early_plain : (text counted : List ℕ) → EndsPlain text counted → is_early text ≡ false
unfolding is_escaped_after
early_plain _ _ (first head plain is_head bare_head is_plain) =
    early_append head (space ∷ plain) (early_bare [] head refl (head_none (bare head) is_head)) (early_bare [] (space ∷ plain) refl is_plain.no_newline)
early_plain _ _ (later piece counted quoted plain before opens inside bare_quote is_plain) =
    rw (append_assoc piece (quote ∷ quoted) (quote ∷ plain)) (early_append piece (quote ∷ (quoted ++ quote ∷ plain)) (early_plain piece counted before) refl)

-- a closed piece does not
early_closed : (text : List ℕ) → IsClosed text → is_early text ≡ false
unfolding is_escaped_after
early_closed text (inl head) = early_bare [] text refl (head_none (bare text) head)
early_closed text (inr plain) = early_plain text plain.0 plain.1

-- nothing is left of a comment
comment_left : (text : List ℕ) → begins_comment text ≡ true → HasNoNewline text → left_of false text ≡ []
comment_left [] e h = absurd (false≢true e)
comment_left (b ∷ text) e h =
    let on : (b == newline) ≡ false = ne_eqb b newline (All-head (λ c. c ≢ newline) b text h) in
    let rest = All-tail (λ c. c ≢ newline) b text h in
    let skipped : left_of true text ≡ [] = rw append-nil at (skip_comment text [] rest) in
    grind (arith, common_steps, cases_Bool, comment_left text)

-- a blank is one of two bytes
blank_either : (b : ℕ) → is_one_of (space ∷ tab ∷ []) b ≡ true → (b == space || b == tab) ≡ true
blank_either b h = grind (arith, common_steps, cases_Bool)

-- A blank is one of the bytes that InfluxDB skips.
blank_skipped : (b : ℕ) → is_one_of (space ∷ tab ∷ []) b ≡ true → is_one_of (space ∷ tab ∷ nul ∷ []) b ≡ true
blank_skipped b h = grind (arith, common_steps, cases_Bool)

-- A byte that is no blank and is not 0 is kept.
other_kept : (b : ℕ) → is_one_of (space ∷ tab ∷ []) b ≡ false → (b == nul) ≡ false → is_one_of (space ∷ tab ∷ nul ∷ []) b ≡ false
other_kept b h k = grind (arith, common_steps, cases_Bool)

-- without a newline and a comment the gap is dropped
gap_left : (text : List ℕ) → is_early text ≡ false → begins_comment text ≡ false → begins_with nul (left_of false text) ≡ false
    → without_gap text ≡ left_of false text
gap_left [] early comment other = refl
gap_left (b ∷ text) early comment other =
    let line = neither (b == newline) (is_one_of (space ∷ tab ∷ []) b && is_early text) early in
    let mark = neither (b == hash) ((b == space || b == tab) && begins_comment text) comment in
    elim (cases_Bool (is_one_of (space ∷ tab ∷ []) b)) [
      | inl blank ↦
          let more : begins_comment text ≡ false = rw (blank_either b blank) at mark.1 in
          rw (line.0, mark.0, blank, blank_skipped b blank, one-add) (gap_left text (rw blank at line.1) more (rw (line.0, mark.0, blank) at other))
      | inr plain ↦
          let here : (b == nul) ≡ false = rw (line.0, mark.0, plain) at other in
          rw (line.0, mark.0, plain, other_kept b plain here) refl
    ]

-- If a piece is not blank, the text after its gap is the trimmed piece.
pub start_alike : (text : List ℕ) → IsCutPiece Strict text → left_of false text ≢ [] → begins_with nul (left_of false text) ≡ false
    → without_gap text ≡ left_of false text
start_alike text (inl comment) some other = absurd (some (comment_left text comment.0 comment.1))
start_alike text (inr cut) some other = gap_left text (early_closed text cut.1) cut.0 other
