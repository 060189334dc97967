-- Each text has exactly one list of pieces. The pieces and the answers of joined texts are joined. The text of a comment changes no other
-- piece and no answer.
use Rattle.std.proofs.Common.{◌≡◌, ◌≢◌, ℕ, ◌+◌, ◌<◌, true, false, ◌⊎◌, inl, inr, eqb, List, [], ◌∷◌, ◌++◌, length, get_or, take}
use Rattle.std.proofs.Common.{drop, Option, Some, None, MatchOption, slice_range, sym, ◌∙◌, ap, refl, subst, arith, append_assoc}
use Rattle.std.proofs.Common.{append-nil, All, count_by, take_at, take-append-drop, length-append, Result, ◌==◌, ne_eqb, zero, suc, map, flat_map, slice_set, length-set}
use Rattle.std.proofs.lemmas.{Grind.common_steps, Grind.flat_map-append, List.drop_more, List.get_or_at}
use Rattle.std.proofs.lemmas.List.Elements.{All-head, All-tail, All-cons, All-push, All-take, All-append}
use Rattle.std.proofs.lemmas.Bool.{cases_lt, cases_eq, cases_Bool, false≢true, both_ways}
use Rattle.std.specs.List.{AllByRecursion, join_with_byte}
use Rattle.lp_format.specs.format.{Dialect, Crate, Strict, NewlineDelimited, is_escaped_after, begins_comment, HasNoNewline, IsComment}
use Rattle.lp_format.specs.format.{IsCutPiece, IsLastPiece}
use Rattle.lp_format.specs.format.{IsFirstCut, comma, equals, newline, quote, space, Fault, HasAnswers, answers_of, answers_of_piece, answer, Line}
use Rattle.lp_format.specs.format.{Pieces.Pieces, Pieces.Pieces.last, Pieces.Pieces.cut}
use Rattle.lp_format.specs.laws.Laws.{CommentTextIsIgnored, LinesArePieces, LinesJoin, EachLineIsReadAlone, OtherLinesStay}
use Rattle.lp_format.specs.laws.Laws.{LinesAreReadStrictly}
use Rattle.lp_format.proofs.lemmas.split.SplitBare.{IsHead-escaped, IsHead-bare, EndsPlain-escaped, EndsPlain-bare}
use Rattle.lp_format.proofs.lemmas.split.SplitBare.{EndsPlain-start, EndsQuoted-escaped, EndsQuoted-bare, EndsQuoted-start}
use Rattle.lp_format.proofs.lemmas.split.SplitBare.{EndsQuoted-close, place_in_append, nil_has_no_place, cut_not_within}
use Rattle.lp_format.proofs.lemmas.line.TrimLemmas.{left_of, trimmed_is, skip_comment}

-- the byte `b` after `front` is a newline that ends the piece, or lengthens the piece
abbrev GoesOn : Dialect → List ℕ → ℕ → Type 0
GoesOn dialect front b = ((b ≡ newline) × IsCutPiece dialect front) ⊎ IsLastPiece dialect (front ++ b ∷ [])

-- in the dialect of the crate, each byte after a piece ends it as a newline or lengthens it
crate_goes_on : (front : List ℕ) (b : ℕ) → IsLastPiece Crate front → GoesOn Crate front b
crate_goes_on front b (inl (inl h)) = elim (cases_Bool (is_escaped_after front)) [
  | inl e ↦ inr (inl (inl (IsHead-escaped front b h e)))
  | inr e ↦ elim (cases_eq b newline) [
    | inl n ↦ inl (n, (inl h, e))
    | inr n ↦ elim (cases_eq b space) [
      | inl s ↦ inr (inl (inr (space ∷ [], rw s (EndsPlain-start front h e))))
      | inr s ↦ inr (inl (inl (IsHead-bare front b h e s n)))
    ]
  ]
]
crate_goes_on front b (inl (inr (counted, h))) = elim (cases_Bool (is_escaped_after front)) [
  | inl e ↦ inr (inl (inr (counted, EndsPlain-escaped b h e)))
  | inr e ↦ elim (cases_eq b newline) [
    | inl n ↦ inl (n, (inr (counted, h), e))
    | inr n ↦ elim (cases_lt (count_by (λ x. eqb x comma) counted) (count_by (λ x. eqb x equals) counted)) [
      | inl m ↦ elim (cases_eq b quote) [
        | inl q ↦ inr (inr (counted, rw q (EndsQuoted-start h e m)))
        | inr q ↦ inr (inl (inr (counted ++ b ∷ [], EndsPlain-bare b h e n (λ i. absurd (q i)))))
      ]
      | inr m ↦ inr (inl (inr (counted ++ b ∷ [], EndsPlain-bare b h e n (λ _ i. absurd (omega (arith, i, m))))))
    ]
  ]
]
crate_goes_on front b (inr (counted, h)) = elim (cases_Bool (is_escaped_after front)) [
  | inl e ↦ inr (inr (counted, EndsQuoted-escaped b h e))
  | inr e ↦ elim (cases_eq b quote) [
    | inl q ↦ inr (inl (inr (counted, rw q (EndsQuoted-close h e))))
    | inr q ↦ inr (inr (counted, EndsQuoted-bare b h e q))
  ]
]

-- a text that begins as a comment still does with more bytes after it
pub begins_comment-append : (front more : List ℕ) → begins_comment front ≡ true → begins_comment (front ++ more) ≡ true
begins_comment-append [] more e = absurd (false≢true e)
begins_comment-append (b ∷ front) more e = grind (arith, begins_comment-append front more)

-- the first bytes that make a text begin as a comment hold no newline
becomes_comment : (front : List ℕ) (b : ℕ) → begins_comment front ≡ false → begins_comment (front ++ b ∷ []) ≡ true
    → All (λ c. c ≢ newline) (front ++ b ∷ [])
becomes_comment [] b e f = grind (arith, false≢true)
becomes_comment (x ∷ front) b e f = grind (arith, common_steps, All-cons, becomes_comment front b)

-- a newline after a text does not make it begin as a comment
begins_comment-newline : (front more : List ℕ) → begins_comment front ≡ false → begins_comment (front ++ newline ∷ more) ≡ false
begins_comment-newline [] more e = refl
begins_comment-newline (x ∷ front) more e = grind (arith, begins_comment-newline front more)

-- in each dialect, each byte after a piece ends it as a newline or lengthens it
goes_on : (dialect : Dialect) (front : List ℕ) (b : ℕ) → IsLastPiece dialect front → GoesOn dialect front b
goes_on Crate front b h = crate_goes_on front b h
goes_on Strict front b (inl h) = elim (cases_eq b newline) [
  | inl n ↦ inl (n, inl h)
  | inr n ↦ inr (inl (begins_comment-append front (b ∷ []) h.0, All-push (λ c. c ≢ newline) front b h.1 n))
]
goes_on Strict front b (inr h) = elim (cases_Bool (begins_comment (front ++ b ∷ []))) [
  | inl c ↦ inr (inl (c, becomes_comment front b h.0 c))
  | inr c ↦ elim (crate_goes_on front b h.1) [
    | inl w ↦ inl (w.0, inr (h.0, w.1.0, w.1.1))
    | inr w ↦ inr (inr (c, w))
  ]
]
goes_on NewlineDelimited front b h = elim (cases_eq b newline) [
  | inl n ↦ inl (n, h)
  | inr n ↦ inr (All-push (λ c. c ≢ newline) front b h n)
]

-- bytes without a newline lengthen a last piece
pub IsLastPiece-extend : (dialect : Dialect) (front more : List ℕ) → IsLastPiece dialect front → All (λ b. b ≢ newline) more
    → IsLastPiece dialect (front ++ more)
IsLastPiece-extend dialect front [] h n = rw append-nil h
IsLastPiece-extend dialect front (b ∷ more) h n = elim (goes_on dialect front b h) [
  | inl w ↦ absurd (All-head (λ c. c ≢ newline) b more n w.0)
  | inr w ↦ subst (IsLastPiece dialect) (append_assoc front (b ∷ []) more)
      (IsLastPiece-extend dialect (front ++ b ∷ []) more w (All-tail (λ c. c ≢ newline) b more n))
]

-- the empty text can be a last piece
pub IsLastPiece-nil : (dialect : Dialect) → IsLastPiece dialect []
IsLastPiece-nil dialect = grind arith

-- a piece that a newline can end can be a last piece
pub IsLastPiece-cut : (dialect : Dialect) (piece : List ℕ) → IsCutPiece dialect piece → IsLastPiece dialect piece
IsLastPiece-cut dialect piece h = grind arith

-- a text with a newline in it is not a text without a newline
newline_within : (piece rest : List ℕ) → HasNoNewline (piece ++ newline ∷ rest) → ⊥
newline_within piece rest h =
    h (length piece) 0 (omega (arith, length-append piece (newline ∷ rest))) (get_or_at piece newline rest 0 (length piece) refl)

-- no last piece goes on after a newline that can end its front
pub no_cut_within : (dialect : Dialect) (piece rest : List ℕ) → IsCutPiece dialect piece → IsLastPiece dialect (piece ++ newline ∷ rest) → ⊥
no_cut_within Crate piece rest c h = cut_not_within piece rest c.0 c.1 h
no_cut_within Strict piece rest (inl c) (inl h) = newline_within piece rest h.1
no_cut_within Strict piece rest (inl c) (inr h) = false≢true (sym h.0 ∙ begins_comment-append piece (newline ∷ rest) c.0)
no_cut_within Strict piece rest (inr c) (inl h) = false≢true (sym (begins_comment-newline piece rest c.0) ∙ h.0)
no_cut_within Strict piece rest (inr c) (inr h) = cut_not_within piece rest c.1 c.2 h.1
no_cut_within NewlineDelimited piece rest c h = newline_within piece rest h

-- the text has a list of pieces
abbrev HasPieces : Dialect → List ℕ → Type 0
HasPieces dialect text = (pieces : List (List ℕ)) × Pieces dialect text pieces

-- a last piece with any text after it has a list of pieces
pieces_from : (dialect : Dialect) (front text : List ℕ) → IsLastPiece dialect front → HasPieces dialect (front ++ text)
pieces_from dialect front [] h = (front ∷ [], rw append-nil (last front h))
pieces_from dialect front (b ∷ text) h = elim (goes_on dialect front b h) [
  | inl w ↦
      let others = pieces_from dialect [] text (IsLastPiece-nil dialect) in
      (front ∷ others.0, rw w.0 (cut front text others.0 w.1 others.1))
  | inr w ↦ subst (HasPieces dialect) (append_assoc front (b ∷ []) text) (pieces_from dialect (front ++ b ∷ []) text w)
]

-- each text has a list of pieces
pub pieces_exist : (dialect : Dialect) (text : List ℕ) → HasPieces dialect text
pieces_exist dialect text = pieces_from dialect [] text (IsLastPiece-nil dialect)

-- no text has an empty list of pieces
pub Pieces-nil : (dialect : Dialect) (text : List ℕ) → Pieces dialect text [] → ⊥
Pieces-nil dialect text h = elim h [ ]

abbrev Cuts : Dialect → List ℕ → List ℕ → List (List ℕ) → Type 0
Cuts dialect text piece pieces = (rest : List ℕ) × (text ≡ piece ++ newline ∷ rest) × IsCutPiece dialect piece × Pieces dialect rest pieces

-- the first piece of a text is the whole text, or a newline ends it there
uncons : (dialect : Dialect) {text piece : List ℕ} {pieces : List (List ℕ)} → Pieces dialect text (piece ∷ pieces)
    → ((pieces ≡ []) × (text ≡ piece) × IsLastPiece dialect piece) ⊎ Cuts dialect text piece pieces
uncons dialect h = grind arith

-- equal texts have equal lists of pieces
pub same_pieces : (dialect : Dialect) {t u : List ℕ} {ps qs : List (List ℕ)} → t ≡ u → Pieces dialect t ps → Pieces dialect u qs → ps ≡ qs
same_pieces dialect e (last p h) (last q k) = ap (λ x. x ∷ []) e
same_pieces dialect e (last p h) (cut q u qs c k) = absurd (no_cut_within dialect q u c (subst (IsLastPiece dialect) e h))
same_pieces dialect e (cut p t ps c h) (last q k) = absurd (no_cut_within dialect p t c (subst (IsLastPiece dialect) (sym e) k))
same_pieces dialect e (cut p t ps c h) (cut q u qs d k) = elim (place_in_append p (newline ∷ t) newline q u e) [
  | inl w ↦ absurd (no_cut_within dialect q w.0 d (subst (IsLastPiece dialect) w.1 (IsLastPiece-cut dialect p c)))
  | inr w ↦ go w.0 w.1 w.2 (λ f. same_pieces dialect f h k)
]
  where
    -- a cut of a text is where the other cut is, and not further on
    go : (front : List ℕ) → q ≡ p ++ front → newline ∷ t ≡ front ++ newline ∷ u → (t ≡ u → ps ≡ qs) → p ∷ ps ≡ q ∷ qs
    go [] is at same = let first = is ∙ append-nil p in let others = same (cc) in cc
    go (x ∷ front) is at same =
        let sign : x ≡ newline = cc in
        let longer = is ∙ ap (λ b. p ++ b ∷ front) sign in
        absurd (no_cut_within dialect p front c (subst (IsLastPiece dialect) longer (IsLastPiece-cut dialect q d)))

-- a text with its pieces from `piece` on, which are the pieces of its rest: other pieces can take their place
record From (dialect : Dialect) (text : List ℕ) (before : List (List ℕ)) (piece : List ℕ) (after : List (List ℕ)) : Type 0 where
  front : List ℕ
  rest : List ℕ
  is : text ≡ front ++ rest
  are : Pieces dialect rest (piece ∷ after)
  others : (other : List ℕ) (pieces : List (List ℕ)) → Pieces dialect other pieces → Pieces dialect (front ++ other) (before ++ pieces)

-- each piece of a text has a `From`
from_piece : (dialect : Dialect) (text : List ℕ) (before : List (List ℕ)) (piece : List ℕ) (after : List (List ℕ))
    → Pieces dialect text (before ++ piece ∷ after) → From dialect text before piece after
from_piece dialect text [] piece after h = record { front = []; rest = text; is = refl; are = h; others = λ t ps k. k }
from_piece dialect text (p ∷ before) piece after h = elim (uncons dialect h) [
  | inl w ↦ absurd (nil_has_no_place before piece after (sym w.0))
  | inr w ↦
      let f = from_piece dialect w.0 before piece after w.3 in
      record {
        front = p ++ newline ∷ f.front;
        rest = f.rest;
        is = w.1 ∙ ap (λ t. p ++ newline ∷ t) f.is ∙ sym (append_assoc p (newline ∷ f.front) f.rest);
        are = f.are;
        others = λ t ps k. rw append_assoc (cut p (f.front ++ t) (before ++ ps) w.2 (f.others t ps k));
      }
]

-- if a newline can end the last piece of a text, the pieces of the text after the newline follow it
pub join_from_cut : (dialect : Dialect) (u t : List ℕ) (before : List (List ℕ)) (piece : List ℕ)
    (after : List (List ℕ)) → Pieces dialect u (before ++ piece ∷ []) → Pieces dialect t after
    → IsCutPiece dialect piece → Pieces dialect (u ++ newline ∷ t) (before ++ piece ∷ after)
join_from_cut dialect u t before piece after h k c =
    let f = from_piece dialect u before piece [] h in
    elim (uncons dialect f.are) [
      | inl w ↦ rw (f.is, w.1, append_assoc) (f.others (piece ++ newline ∷ t) (piece ∷ after) (cut piece t after c k))
      | inr w ↦ absurd (Pieces-nil dialect w.0 w.3)
    ]

-- a newline can end the last piece of a text if the joined pieces are the pieces of the two texts with a newline between them
pub cut_from_join : (dialect : Dialect) (u t : List ℕ) (before : List (List ℕ)) (piece : List ℕ) (after : List (List ℕ))
    → Pieces dialect t after → Pieces dialect (u ++ newline ∷ t) (before ++ piece ∷ after) → IsCutPiece dialect piece
cut_from_join dialect u t before piece after k j = grind (arith, uncons, from_piece, Pieces-nil)

-- a comment stays a comment if other bytes without a newline come after its `#`
another_comment : (front old new : List ℕ) → begins_comment front ≡ true → All (λ b. b ≢ newline) new
    → IsLastPiece Strict (front ++ old) → IsComment (front ++ new)
another_comment front old new f n (inl h) =
    let q : All (λ b. b ≢ newline) front = rw take_at at (All-take (λ b. b ≢ newline) (length front) (front ++ old) h.1) in
    (begins_comment-append front new f, All-append (λ b. b ≢ newline) front new q n)
another_comment front old new f n (inr h) = absurd (both_ways (begins_comment (front ++ old)) h.0 (begins_comment-append front old f))

-- in the strict dialect, the rest of a comment can be replaced by any bytes without a newline
pub comment_replaced : (before : List (List ℕ)) (front old new : List ℕ) (after : List (List ℕ)) (text : List ℕ)
    → begins_comment front ≡ true → All (λ b. b ≢ newline) new → Pieces Strict text (before ++ (front ++ old) ∷ after)
    → (other : List ℕ) × Pieces Strict other (before ++ (front ++ new) ∷ after)
comment_replaced before front old new after text c n h =
    let f = from_piece Strict text before (front ++ old) after h in
    let is_new = another_comment front old new c n in
    elim (uncons Strict f.are) [
      | inl w ↦ (f.front ++ (front ++ new), f.others _ _ (rw w.0 (last (front ++ new) (inl (is_new w.2)))))
      | inr w ↦
          let made = cut (front ++ new) w.0 after (inl (is_new (IsLastPiece-cut Strict (front ++ old) w.2))) w.3 in
          (f.front ++ ((front ++ new) ++ newline ∷ w.0), f.others _ _ made)
    ]

-- a piece that begins as a comment is a comment, in the strict dialect
pub piece_is_comment : (before : List (List ℕ)) (piece : List ℕ) (after : List (List ℕ)) (text : List ℕ)
    → begins_comment piece ≡ true → Pieces Strict text (before ++ piece ∷ after) → IsComment piece
piece_is_comment before piece after text c h = grind (arith, uncons, from_piece, IsLastPiece-cut, both_ways)

-- a text is the text up to a newline, this newline, and the text after it
pub split_at : (text : List ℕ) (i : ℕ) → i < length text → get_or text i 0 ≡ newline → text ≡ take i text ++ newline ∷ drop (i + 1) text
split_at text i l e = grind (arith, drop_more, take-append-drop)

-- in the strict dialect, the first newline of a text that begins as a comment is its first cut
pub cut_of_comment : (text : List ℕ) (place : Option ℕ) → begins_comment text ≡ true
    → MatchOption place (All (λ b. b ≢ newline) text)
    (λ i. (i < length text) × (get_or text i 0 ≡ newline) × All (λ b. b ≢ newline) (take i text)) → IsFirstCut Strict text place
cut_of_comment text None e h = inl (e, h)
cut_of_comment text (Some i) e h =
    let front : begins_comment (take i text) ≡ true = grind (arith, split_at, begins_comment-newline (take i text) (drop (i + 1) text)) in
    (h.0, h.1, inl (front, h.2))

-- no front of a text begins as a comment if the text does not
pub front_begins_none : (text : List ℕ) (n : ℕ) → begins_comment text ≡ false → begins_comment (take n text) ≡ false
front_begins_none text n e = grind (arith, take-append-drop n text, begins_comment-append (take n text) (drop n text))

-- if a text does not begin as a comment, its first cut in the strict dialect is the first cut in the dialect of the crate
pub cut_of_other : (text : List ℕ) (place : Option ℕ) → begins_comment text ≡ false → IsFirstCut Crate text place
    → IsFirstCut Strict text place
cut_of_other text place e h = grind (arith, front_begins_none)

-- the first cut in the strict dialect, of a comment and of any other text
pub ruleset strict_cuts = (cut_of_comment, cut_of_other)

-- the pieces of a text are the piece before its first cut and the pieces of the text after this cut
pub Pieces-cut_at : (dialect : Dialect) (bytes text piece rest : List ℕ) (i : ℕ) (others : List (List ℕ))
    → bytes ≡ text → (i < length bytes) × (get_or bytes i 0 ≡ newline) × IsCutPiece dialect (take i bytes)
    → piece ≡ slice_range text 0 i → rest ≡ drop (i + 1) text → Pieces dialect rest others → Pieces dialect text (piece ∷ others)
Pieces-cut_at dialect bytes text piece rest i others same h p r left =
    let after : rest ≡ drop (i + 1) bytes = r ∙ ap (drop (i + 1)) (sym same) in
    let made = cut (take i bytes) (drop (i + 1) bytes) others h.2 (subst (λ t. Pieces dialect t others) after left) in
    grind (arith, split_at)

-- pieces joined by newlines are their text
pub pieces_are_text : (dialect : Dialect) {text : List ℕ} {pieces : List (List ℕ)} → Pieces dialect text pieces
    → join_with_byte newline pieces ≡ text
pieces_are_text dialect (last piece h) = refl
pieces_are_text dialect (cut piece text pieces c h) = grind (arith, Pieces-nil, pieces_are_text dialect h)

-- the answers for two texts with a newline between them are the answers for both, if the newline can end the last piece of the first
pub answers_join : (dialect : Dialect) (u t : List ℕ) (before : List (List ℕ)) (piece : List ℕ) (first others : List (Result Line Fault))
    → Pieces dialect u (before ++ piece ∷ []) → IsCutPiece dialect piece
    → HasAnswers dialect u first → HasAnswers dialect t others → HasAnswers dialect (u ++ newline ∷ t) (first ++ others)
answers_join dialect u t before piece first others h c f o = grind (arith, same_pieces, append_assoc, join_from_cut, flat_map-append)

-- nothing is left of a comment when it is trimmed
comment_left : (text : List ℕ) → begins_comment text ≡ true → All (λ b. b ≢ newline) text → left_of false text ≡ []
comment_left [] e h = absurd (false≢true e)
comment_left (b ∷ text) e h =
    let on : (b == newline) ≡ false = ne_eqb b newline (All-head (λ c. c ≢ newline) b text h) in
    let rest = All-tail (λ c. c ≢ newline) b text h in
    let skipped : left_of true text ≡ [] = rw append-nil at (skip_comment text [] rest) in
    grind (arith, common_steps, cases_Bool, comment_left text)

-- other bytes after the `#` of a comment leave the other pieces and all answers as they are
pub comment_text_is_ignored : CommentTextIsIgnored
unfolding answers_of_piece
comment_text_is_ignored front old new before after text answers f n h k =
    let other = comment_replaced before front old new after text f n h in
    grind (arith, piece_is_comment, begins_comment-append, same_pieces, trimmed_is, comment_left, flat_map-append)

-- in the newline-delimited dialect, no piece holds a newline
pub pieces_on_one_line : {text : List ℕ} {pieces : List (List ℕ)} → Pieces NewlineDelimited text pieces → AllByRecursion HasNoNewline pieces
pieces_on_one_line (last piece h) = (h, tt)
pieces_on_one_line (cut piece text pieces c h) = (c, pieces_on_one_line h)

-- in the newline-delimited dialect, the texts between newlines are the pieces
pub lines_are_pieces : LinesArePieces
lines_are_pieces line [] all = last line all.0
lines_are_pieces line (next ∷ lines) all = cut line (join_with_byte newline (next ∷ lines)) (next ∷ lines) all.0 (lines_are_pieces next lines all.1)

-- in the newline-delimited dialect, the pieces of two texts with a newline between them are the pieces of both
pub lines_join : LinesJoin
lines_join u t lines others (last piece h) k = cut u t others h k
lines_join u t lines others (cut piece text pieces c h) k =
    rw append_assoc (cut piece (text ++ newline ∷ t) (pieces ++ others) c (lines_join text t pieces others h k))

-- the answers for each line, joined, are the answers for all lines
joined_answers : (lines : List (List ℕ)) → flat_map (λ one. one) (map (answers_of_piece NewlineDelimited) lines) ≡ answers_of NewlineDelimited lines
joined_answers [] = refl
joined_answers (line ∷ lines) = ap (λ xs. answers_of_piece NewlineDelimited line ++ xs) (joined_answers lines)

-- in the newline-delimited dialect, each line is read alone
pub each_line_is_read_alone : EachLineIsReadAlone
each_line_is_read_alone text answers h = record {
  pieces = h.0;
  are = h.1;
  answered = ap (flat_map (λ one. one)) h.2 ∙ joined_answers h.0;
}

-- lines without a newline stay without one if one of them is replaced by another
set_line : (lines : List (List ℕ)) (n : ℕ) (line : List ℕ) → HasNoNewline line → AllByRecursion HasNoNewline lines
    → AllByRecursion HasNoNewline (slice_set lines n line)
set_line [] n line h all = all
set_line (first ∷ lines) zero line h all = (h, all.1)
set_line (first ∷ lines) (suc n) line h all = (all.0, set_line lines n line h all.1)

-- the answers for a line that is replaced are replaced by the answers for the new line
set_answer : (lines : List (List ℕ)) (n : ℕ) (line : List ℕ) → slice_set (map (answers_of_piece NewlineDelimited) lines) n (answers_of_piece NewlineDelimited line)
    ≡ map (answers_of_piece NewlineDelimited) (slice_set lines n line)
set_answer [] n line = refl
set_answer (first ∷ lines) zero line = refl
set_answer (first ∷ lines) (suc n) line = ap (λ xs. answers_of_piece NewlineDelimited first ∷ xs) (set_answer lines n line)

-- one or more lines without a newline are the pieces of the text that they make
some_lines : (lines : List (List ℕ)) → 0 < length lines → AllByRecursion HasNoNewline lines → Pieces NewlineDelimited (join_with_byte newline lines) lines
some_lines [] some all = absurd (omega arith)
some_lines (line ∷ lines) some all = lines_are_pieces line lines all

-- in the newline-delimited dialect, replacing a line changes no answer of another line
pub other_lines_stay : OtherLinesStay
other_lines_stay text lines n line answers are within h k =
    let some : 0 < length (slice_set lines n line) = grind (arith, length-set) in (
      slice_set lines n line,
      some_lines (slice_set lines n line) some (set_line lines n line h (pieces_on_one_line are)),
      ap (λ xs. slice_set xs n (answers_of_piece NewlineDelimited line))
          (k.2 ∙ ap (map (answers_of_piece NewlineDelimited)) (same_pieces NewlineDelimited refl k.1 are)) ∙ set_answer lines n line,
    )

-- in the newline-delimited dialect, a line is read by the strict rules
pub lines_are_read_strictly : LinesAreReadStrictly
unfolding answer
lines_are_read_strictly text = refl

-- the laws of the newline-delimited dialect
pub ruleset line_laws = (lines_are_pieces, lines_join, each_line_is_read_alone, other_lines_stay, lines_are_read_strictly)

-- the laws of pieces
pub ruleset piece_laws = (pieces_exist, same_pieces, pieces_are_text, cut_from_join, join_from_cut, answers_join)
