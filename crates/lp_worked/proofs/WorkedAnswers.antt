-- Worked lines about the answers for a text: an example that each relation covers, and one just outside.
use Rattle.std.proofs.Common.{◌≡◌, ℕ, List, [], ◌∷◌, map, length, Result, Ok, Err, refl, ap, ◌∙◌, codes, arith, pos}
use Rattle.lp_format.specs.format.{Strict, NewlineDelimited, Dialect, integer, HasAnswers, HasItems, answers_of, answers_of_piece}
use Rattle.lp_format.specs.format.{Fault, Line, Point, field_set_missing, item_of, measurement_value_invalid}
use Rattle.lp_format.specs.format.Pieces.{Pieces}
use Rattle.lp_format.specs.laws.Laws.{HasAnswersByLine}
use Rattle.lp_format.specs.laws.MeaningsOfAnswers.{IsAnswer, IsAnswer.no_measurement}
use Rattle.lp_format.proofs.lemmas.split.SplitPieces.{lines_are_pieces, same_pieces}
use Rattle.lp_lines.proofs.lemmas.meanings.AnswerMeaning.{answer_is_by_rows}
use Rattle.lp_portable.proofs.AnsweredAlike.{no_newline}
use Rattle.lp_worked.proofs.WorkedTexts.{on_texts, one_line, line_of_m}
use Rattle.lp_worked.proofs.WorkedPieces.{two_pieces}

-- a text has the answers of its pieces, and no others
pub answers_are : {dialect : Dialect} {text : List ℕ} {pieces : List (List ℕ)} {answers : List (Result Line Fault)} → Pieces dialect text pieces
    → HasAnswers dialect text answers → answers ≡ answers_of dialect pieces
answers_are {dialect} are h = h.answered ∙ ap (answers_of dialect) (same_pieces dialect refl h.are are)

-- A text has only one list of items: the items of the answers for its pieces.
pub items_are : {dialect : Dialect} {text : List ℕ} {pieces : List (List ℕ)} {items : List (Result Point Fault)} → Pieces dialect text pieces
    → HasItems dialect text items → items ≡ map item_of (answers_of dialect pieces)
items_are are h = h.2 ∙ ap (map item_of) (answers_are are h.1)

-- `m f=2i`
abbrev two_line : Line
two_line = line_of_m (integer (pos 2))

-- `m f=1i⏎m f=2i` has two answers, each a line.
pub two_answers : HasAnswers Strict (codes "m f=1i\nm f=2i") (Ok one_line ∷ Ok two_line ∷ [])
unfolding on_texts
two_answers = record { pieces = codes "m f=1i" ∷ codes "m f=2i" ∷ []; are = two_pieces; answered = refl }

-- The second line cannot be left out.
pub not_one_answer : ¬ HasAnswers Strict (codes "m f=1i\nm f=2i") (Ok one_line ∷ [])
unfolding on_texts
not_one_answer h = omega (arith, ap length (answers_are two_pieces h))

-- The items of `m f=1i⏎m f=2i` are the points of its two lines.
pub two_items : HasItems Strict (codes "m f=1i\nm f=2i") (map item_of (Ok one_line ∷ Ok two_line ∷ []))
two_items = (_, two_answers, refl)

-- The second item cannot be left out.
pub not_one_item : ¬ HasItems Strict (codes "m f=1i\nm f=2i") (map item_of (Ok one_line ∷ []))
unfolding on_texts
not_one_item h = omega (arith, ap length (items_are two_pieces h))

-- the lines of a text, if each newline ends a line
two_lines : Pieces NewlineDelimited (codes "m f=\"a\nm f=2i") (codes "m f=\"a" ∷ codes "m f=2i" ∷ [])
two_lines = lines_are_pieces (codes "m f=\"a") (codes "m f=2i" ∷ []) (no_newline (codes "m f=\"a") refl, (no_newline (codes "m f=2i") refl, tt))

-- If each newline ends a line, an open quote is a fault of its own line, and the line after it is read.
pub an_answer_for_each_line : HasAnswersByLine (codes "m f=\"a\nm f=2i") ((Err field_set_missing ∷ []) ∷ (Ok two_line ∷ []) ∷ [])
unfolding on_texts
an_answer_for_each_line = (codes "m f=\"a" ∷ codes "m f=2i" ∷ [], two_lines, refl)

-- The open quote does not take the line after it.
pub no_line_is_taken : ¬ HasAnswersByLine (codes "m f=\"a\nm f=2i") ((Err field_set_missing ∷ []) ∷ [])
unfolding on_texts
no_line_is_taken h =
    omega (arith, ap length (h.2 ∙ ap (map (answers_of_piece NewlineDelimited)) (same_pieces NewlineDelimited refl h.1 two_lines)))

-- The row of a missing measurement answers `,t=x f=1i`.
pub a_row_answers : IsAnswer Strict (codes ",t=x f=1i") (Err measurement_value_invalid)
unfolding on_texts
a_row_answers = no_measurement refl

-- No other row of the table of answers holds for `,t=x f=1i`.
pub no_other_row : ¬ IsAnswer Strict (codes ",t=x f=1i") (Err field_set_missing)
unfolding on_texts
no_other_row h = let is = (answer_is_by_rows Strict (codes ",t=x f=1i") (Err field_set_missing)).1 h in absurd (cc)
