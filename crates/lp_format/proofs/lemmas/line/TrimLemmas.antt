-- Trimming from left to right: it drops the longest front of blanks and comments.
use Rattle.std.proofs.Common.{◌≡◌, ◌≢◌, ℕ, ◌+◌, ◌<◌, ◌≤◌, List, [], ◌∷◌, length, drop, slice_index, Bool, true, false, ◌||◌, refl, sym, ap}
use Rattle.std.proofs.Common.{◌∙◌, arith, inl, inr, one-add, suc, ◌++◌, subst, length-append, append_assoc, ◌==◌, if◌then◌else◌, All}
use Rattle.std.proofs.Common.{eqb-true, ne_eqb}
use Rattle.std.specs.List.{join_with_byte, slice_split}
use Rattle.std.proofs.lemmas.{Bool.cases_Bool, Bool.eqb-false, Grind.common_steps, List.drop_more}
use Rattle.std.proofs.lemmas.List.{Splits.join_with_byte-slice_split, Splits.length-slice_split, Elements.All-cons, Elements.All-nil}
use Rattle.lp_format.specs.format.{hash, is_one_of, newline, space, tab, is_comment_or_empty, trimmed, without_blanks, without_front}
use Rattle.lp_format.specs.laws.Meanings.{IsBlankFront, IsLineEnd, empty, blank, comment}

abbrev pub is_blank : ℕ → Bool
is_blank b = is_one_of (space ∷ tab ∷ []) b

abbrev is_skipped : List ℕ → Bool
is_skipped line = is_comment_or_empty (without_blanks line)

abbrev lines_of : List ℕ → List (List ℕ)
lines_of text = slice_split (λ b. b == newline) text

-- the text of these lines from the first line that is not skipped, without the blanks at its start
abbrev from_lines : List (List ℕ) → List ℕ
from_lines lines = without_blanks (join_with_byte newline (without_front is_skipped lines))

-- the text that is left after the blanks and comments at its start; `in_comment` says whether the text begins inside a comment
abbrev pub left_of : Bool → List ℕ → List ℕ
left_of in_comment [] = []
left_of in_comment (b ∷ rest) =
    if b == newline then left_of false rest
    else if in_comment || b == hash then left_of true rest
    else if is_blank b then left_of false rest
    else b ∷ rest

-- a first byte stays first when lines are joined
join_first : (b : ℕ) (l : List ℕ) (ls : List (List ℕ)) → join_with_byte newline ((b ∷ l) ∷ ls) ≡ b ∷ join_with_byte newline (l ∷ ls)
join_first b l ls = grind arith

module _ (b : ℕ) (l : List ℕ) (ls : List (List ℕ)) where
  -- a blank at the start of the first line changes nothing
  blank_first : is_blank b ≡ true → from_lines ((b ∷ l) ∷ ls) ≡ from_lines (l ∷ ls)
  blank_first h =
      elim (cases_Bool (is_skipped l)) [
        | inl skip ↦ simp (h, skip, one-add)
        | inr keep ↦ simp (h, keep, join_first b l ls, one-add)
      ]

  -- a comment at the start of the first line takes the whole line
  comment_first : b ≡ hash → from_lines ((b ∷ l) ∷ ls) ≡ from_lines ls
  comment_first e = rw (e, one-add) refl

-- skipping line by line leaves of a text what skipping byte by byte leaves, outside a comment and inside one
record Left (text : List ℕ) : Type 0 where
  outside : from_lines (lines_of text) ≡ left_of false text
  inside : from_lines (drop 1 (lines_of text)) ≡ left_of true text

-- skipping line by line and byte by byte agree on a text with one more byte at the front that is no newline, if they agree on the text
other_left : (b : ℕ) (text : List ℕ) (lines : List (List ℕ)) → lines_of text ≡ lines → (b == newline) ≡ false → Left text → Left (b ∷ text)
other_left b text [] are on more = absurd (omega (arith, ap length are, length-slice_split (λ b. b == newline) text))
other_left b text (l ∷ ls) are on more =
    let joined : join_with_byte newline (l ∷ ls) ≡ text = ap (join_with_byte newline) (sym are) ∙ join_with_byte-slice_split 10 text in
    grind (arith, cases_Bool, comment_first, eqb-true, blank_first, join_first)

-- skipping byte by byte leaves of each text what skipping line by line leaves
left_is : (text : List ℕ) → Left text
left_is [] = record { outside = refl; inside = refl }
left_is (b ∷ text) =
    elim (cases_Bool (b == newline)) [
      | inl cut ↦ record { outside = rw (cut, one-add) (left_is text).outside; inside = rw cut (left_is text).outside }
      | inr on ↦ other_left b text (lines_of text) refl on (left_is text)
    ]

-- the trimmed text of a text is the text that skipping byte by byte leaves
pub trimmed_is : (text : List ℕ) → trimmed text ≡ left_of false text
unfolding trimmed
trimmed_is text = (left_is text).outside

-- the text from a place on is the byte at this place and the text after it
pub left_step : (in_comment : Bool) (text : List ℕ) (i : ℕ) → i < length text
    → left_of in_comment (drop i text) ≡ left_of in_comment (slice_index text i ∷ drop (i + 1) text)
left_step in_comment text i lt = ap (left_of in_comment) (drop_more text i 0 lt)

-- the text is a front of blanks and comments, and then `after`
abbrev Outside : List ℕ → List ℕ → Type 0
Outside text after = (front : List ℕ) × (text ≡ front ++ after) × IsBlankFront front after

-- the text is the rest of a comment, a front of blanks and comments, and then `after`
abbrev Inside : List ℕ → List ℕ → Type 0
Inside text after =
    (end front : List ℕ) × (text ≡ end ++ (front ++ after)) × All (λ b. b ≢ newline) end × IsLineEnd (front ++ after)
    × IsBlankFront front after

module _ (b : ℕ) (text after : List ℕ) where
  -- a blank before a front of blanks and comments is in the front
  front_blank : is_one_of (space ∷ tab ∷ newline ∷ []) b ≡ true → Outside text after → Outside (b ∷ text) after
  front_blank h f = (b ∷ f.0, ap (λ t. b ∷ t) f.1, blank b f.0 after h f.2)

  -- a `#` before the rest of a comment begins a front of blanks and comments
  front_comment : b ≡ hash → Inside text after → Outside (b ∷ text) after
  front_comment h f = (hash ∷ f.0 ++ f.1, grind (arith, append_assoc), comment f.0 f.1 after f.3 f.4 f.5)

  -- a newline ends the comment before it
  comment_ends : b ≡ newline → Outside (b ∷ text) after → Inside (b ∷ text) after
  comment_ends h f = ([], f.0, f.1, All-nil (λ c. c ≢ newline), subst IsLineEnd f.1 h, f.2)

  -- any byte but a newline belongs to the comment around it
  comment_more : b ≢ newline → Inside text after → Inside (b ∷ text) after
  comment_more h f = (b ∷ f.0, f.1, ap (λ t. b ∷ t) f.2, All-cons (λ c. c ≢ newline) b f.0 h f.3, f.4, f.5)

-- the text that is left follows a front of blanks and comments; inside a comment, the rest of the comment comes before this front
fronts_are : (text : List ℕ) → Outside text (left_of false text) × Inside text (left_of true text)
fronts_are [] = (([], refl, empty []), ([], [], refl, All-nil (λ c. c ≢ newline), tt, empty []))
fronts_are (b ∷ text) =
    let f = fronts_are text in
    elim (cases_Bool (b == newline)) [
      | inl h ↦
          let outside = front_blank b text (left_of false text) (rw (eqb-true b newline h) refl) f.0 in
          rw h (outside, comment_ends b text (left_of false text) (eqb-true b newline h) outside)
      | inr h ↦
          let inside = comment_more b text (left_of true text) (eqb-false b newline h) f.1 in
          elim (cases_Bool (b == hash)) [
            | inl sharp ↦ rw (h, sharp) (front_comment b text (left_of true text) (eqb-true b hash sharp) f.1, inside)
            | inr plain ↦ elim (cases_Bool (is_blank b)) [
              | inl m ↦ rw (h, plain, m) (front_blank b text (left_of false text) (grind (arith, common_steps)) f.0, inside)
              | inr m ↦ rw (h, plain, m) (([], refl, empty (b ∷ text)), inside)
            ]
          ]
    ]

-- the trimmed text of a piece follows a front of blanks and comments
pub trimmed_is_after : (piece : List ℕ) → Outside piece (trimmed piece)
trimmed_is_after piece = subst (Outside piece) (sym (trimmed_is piece)) (fronts_are piece).0

-- the rest of a comment up to its newline is skipped
pub skip_comment : (end rest : List ℕ) → All (λ b. b ≢ newline) end → left_of true (end ++ rest) ≡ left_of true rest
skip_comment [] rest plain = refl
skip_comment (b ∷ end) rest plain =
    rw (ne_eqb b newline (plain 0 0 (omega arith))) (skip_comment end rest (λ k d l. plain (suc k) d (omega arith)))

-- a front of blanks and comments is skipped
front_skipped : (front after : List ℕ) → IsBlankFront front after → left_of false (front ++ after) ≡ left_of false after
front_skipped _ _ (empty after) = refl
front_skipped _ _ (blank b front after h more) = grind (arith, common_steps, cases_Bool, front_skipped front after more)
front_skipped _ _ (comment text front after plain stops more) = grind (arith, append_assoc, skip_comment, front_skipped front after more)

-- no front of blanks and comments of a piece is longer than the one before its trimmed text
pub trimmed_is_longest : (piece front other after : List ℕ) → piece ≡ front ++ trimmed piece → piece ≡ other ++ after
    → IsBlankFront other after → length other ≤ length front
trimmed_is_longest piece front other after e d h =
    let same : trimmed piece ≡ left_of false after = trimmed_is piece ∙ ap (left_of false) d ∙ front_skipped other after h in
    let left = (fronts_are after).0 in
    omega (arith, ap length e, ap length d, ap length same, ap length left.1, length-append {A = ℕ})
