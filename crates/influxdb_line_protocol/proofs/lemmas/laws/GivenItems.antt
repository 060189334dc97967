-- The items and the events that calls of `next` give are the items and the events of the text, one after another.
use Rattle.std.proofs.Common.{◌≡◌, ℕ, ◌<◌, List, [], ◌∷◌, ◌++◌, length, map, refl, sym, subst, arith, append_assoc, append-nil, Some}
use Rattle.std.proofs.Common.{Result, All, eq-eqb, ne_eqb}
use Rattle.std.specs.Iterator.{Yields}
use Rattle.std.proofs.lemmas.{Bool.cases_Bool, Grind.flat_map-append, List.Elements.All-tail}
use Rattle.lp_format.specs.format.{Dialect, trimmed, Left, PiecesLeft, answers_of, answers_of_piece, answer}
use Rattle.lp_values.specs.declared.error.Error.{Error}
use Rattle.lp_lines.specs.{declared.parsed.ParsedLine.ParsedLine, code.ParseSteps.GivesItem}
use Rattle.lp_events.specs.code.{LineSteps.IsBlankPiece, EventsLeft.HasEventsLeft}
use Rattle.influxdb_line_protocol.specs.laws.GivenItems.{trimmed_lines, AreItemsOf, AreAnswers, ItemsAreOfPieces, ItemsAreAnswers}
use Rattle.influxdb_line_protocol.specs.laws.GivenItems.{GivenLinesWereRead, ItemsSoFar}
use Rattle.influxdb_line_protocol.specs.laws.GivenEvents.{AllEventsCome, EventsSoFar}
use Rattle.lp_format.proofs.lemmas.split.SplitPieces.{same_pieces}
use Rattle.lp_events.proofs.lemmas.lines.LineSteps.{left_pieces}

-- nothing is left of blank pieces
blank_lines : (pieces : List (List ℕ)) → All IsBlankPiece pieces → trimmed_lines pieces ≡ []
blank_lines [] h = refl
blank_lines (p ∷ pieces) h =
    rw (eq-eqb (length (trimmed p)) 0 (h 0 p (omega arith))) (blank_lines pieces (All-tail IsBlankPiece p pieces h))

-- The trimmed texts of blank pieces, a piece that is not blank, and other pieces are the trimmed text of that piece and the trimmed texts
-- of the others.
lines_from : (skipped : List (List ℕ)) (piece : List ℕ) (front : List (List ℕ)) → All IsBlankPiece skipped → 0 < length (trimmed piece)
    → trimmed_lines (skipped ++ piece ∷ front) ≡ trimmed piece ∷ trimmed_lines front
lines_from skipped piece front blank some = grind (arith, flat_map-append, blank_lines, ne_eqb)

-- The items that calls gave are the items of the pieces before the pieces that are left.
given_items : (items : List (Result ParsedLine Error)) (before left : Left) (others : List (List ℕ)) → Yields GivesItem before items left
    → PiecesLeft left others
    → (front : List (List ℕ)) × PiecesLeft before (front ++ others) × AreItemsOf before.dialect (trimmed_lines front) items
given_items [] before left others steps h = ([], subst (λ l. PiecesLeft l others) (sym steps) h, tt)
given_items (item ∷ items) before left others steps h =
    let more = given_items items steps.0 left others steps.2 h in
    let gave = steps.1.1 (more.0 ++ others) more.1 in
    let same : steps.0.dialect ≡ before.dialect = steps.1.0 in
    let later = subst (λ d. AreItemsOf d (trimmed_lines more.0) items) same more.2 in (
      (gave.skipped ++ gave.piece ∷ more.0),
      subst (PiecesLeft before) (sym (append_assoc gave.skipped (gave.piece ∷ more.0) others)) gave.left,
      subst (λ ls. AreItemsOf before.dialect ls (item ∷ items)) (sym (lines_from gave.skipped gave.piece more.0 gave.blank gave.some))
          (gave.item_is, later),
    )

-- up to any call
pub items_so_far : ItemsSoFar
items_so_far dialect text items left others steps h = given_items items (record { dialect = dialect; text = Some text }) left others steps h

-- Up to the last call of `next`, the items are the items of the trimmed pieces.
pub items_are_of_pieces : ItemsAreOfPieces
items_are_of_pieces dialect text pieces items h drained = grind (arith, items_so_far, same_pieces, flat_map-append, blank_lines, append-nil)

-- The answers for pieces are the answers for their trimmed texts.
answers_of_lines : (dialect : Dialect) (pieces : List (List ℕ)) → answers_of dialect pieces ≡ map (answer dialect) (trimmed_lines pieces)
unfolding answers_of_piece
answers_of_lines dialect [] = refl
answers_of_lines dialect (p ∷ pieces) = grind (arith, cases_Bool, answers_of_lines dialect pieces)

-- items of trimmed texts are the answers for them
items_answer : (dialect : Dialect) (lines : List (List ℕ)) (items : List (Result ParsedLine Error)) → AreItemsOf dialect lines items
    → AreAnswers items (map (answer dialect) lines)
items_answer dialect [] items h = grind arith
items_answer dialect (line ∷ lines) [] h = absurd h
items_answer dialect (line ∷ lines) (item ∷ items) h = (h.0.answers, items_answer dialect lines items h.1)

-- The items of a text are its answers, or `OutOfMemory` in the place of an answer.
pub items_are_answers : ItemsAreAnswers
items_are_answers dialect text answers items has drained = grind (arith, items_are_of_pieces, answers_of_lines, items_answer)

-- a line that is given was read
pub given_lines_were_read : GivenLinesWereRead
given_lines_were_read before after line gives =
    let left = left_pieces after in
    let gave = gives.1 left.0 left.1 in
    record { dialect = before.dialect; text = gave.piece; answered = gave.item_is.answers }

-- The events that came, followed by the events that are left, are the events that were left at the start.
pub so_far : EventsSoFar
so_far start reader [] others same left = subst (λ r. HasEventsLeft r others) (sym same) left
so_far start reader (event ∷ came) others (next, given, more) left = grind (arith, so_far next reader came others more left)

-- All events that were left at the start come before `None`.
pub all_come : AllEventsCome
all_come start came (end, (reader, more, none)) = rw append-nil at (so_far start reader came [] more none.0)
