-- The pieces that a call of `next_line` skips, and the bytes, pieces and items that are left after it.
use Rattle.std.proofs.Common.{◌≡◌, ℕ, ◌+◌, ◌<◌, ◌≤◌, List, [], ◌∷◌, ◌++◌, length, Bool, true, false, refl, sym, arith}
use Rattle.std.proofs.Common.{append_assoc, length-append, Option, Some, None, Bor, All}
use Rattle.std.proofs.lemmas.{Bool.cases_Bool, List.Elements.All-push}
use Rattle.lp_format.specs.format.{newline, Dialect, Left, PiecesLeft, most_pieces, trimmed}
use Rattle.lp_format.specs.format.Pieces.{Pieces, Pieces.last, Pieces.cut}
use Rattle.lp_format.proofs.lemmas.{line.TrimLemmas.left_of, line.TrimLemmas.trimmed_is, split.SplitPieces.pieces_exist}
use Rattle.lp_events.specs.code.LineSteps.{GivesLine, IsBlankPiece, most_items}

-- blank pieces were left before these pieces
pub record Skipped (before : Left) (others : List (List ℕ)) : Type 0 where
  pub skipped : List (List ℕ)
  pub left : PiecesLeft before (skipped ++ others)
  pub blank : All IsBlankPiece skipped

-- one more piece that is blank is skipped
pub Skipped-more : (before : Left) (piece : List ℕ) (others : List (List ℕ)) → IsBlankPiece piece
    → Skipped before (piece ∷ others) → Skipped before others
Skipped-more before piece others e h =
    record {
      skipped = h.skipped ++ piece ∷ [];
      left = rw append_assoc h.left;
      blank = All-push IsBlankPiece h.skipped piece h.blank e;
    }

-- the number of bytes that pieces have, with one more for each piece
abbrev total : List (List ℕ) → ℕ
total [] = 0
total (piece ∷ pieces) = length piece + 1 + total pieces

-- the pieces of a text have its bytes and a newline between each two
pieces_total : (dialect : Dialect) {text : List ℕ} {pieces : List (List ℕ)} → Pieces dialect text pieces → total pieces ≡ length text + 1
pieces_total dialect (last piece h) = omega arith
pieces_total dialect (cut piece text pieces c h) = omega (arith, pieces_total dialect h, length-append piece (newline ∷ text))

-- a piece among others, with the pieces after it, has no more bytes than all have
total_after : (skipped : List (List ℕ)) (piece : List ℕ) (pieces : List (List ℕ))
    → length piece + 1 + total pieces ≤ total (skipped ++ piece ∷ pieces)
total_after [] piece pieces = omega arith
total_after (p ∷ skipped) piece pieces = omega (arith, total_after skipped piece pieces)

-- the pieces that are left have the bytes that are left
left_total : (left : Left) (pieces : List (List ℕ)) → PiecesLeft left pieces → total pieces ≡ most_pieces left.text
left_total left pieces h = grind (arith, pieces_total)

-- the text that is left has pieces
pub left_pieces : (left : Left) → (pieces : List (List ℕ)) × PiecesLeft left pieces
left_pieces left = go left.dialect left.text
  where
    -- each text has pieces
    go : (dialect : Dialect) (text : Option (List ℕ)) → (pieces : List (List ℕ)) × PiecesLeft (record { dialect = dialect; text = text }) pieces
    go dialect None = ([], refl)
    go dialect (Some text) = pieces_exist dialect text

-- no piece can come if no piece is left
pub none_comes : (left : Left) → PiecesLeft left [] → most_pieces left.text ≡ 0
none_comes left none = sym (left_total left [] none)

-- the bytes of a piece that was given are not left after it
pieces_less : (before after : Left) (skipped : List (List ℕ)) (piece : List ℕ) (others : List (List ℕ))
    → PiecesLeft before (skipped ++ piece ∷ others) → PiecesLeft after others → length piece + 1 + most_pieces after.text ≤ most_pieces before.text
pieces_less before after skipped piece others h k = grind (arith, left_total, total_after)

-- skipping blanks and comments at the start of a text leaves no more bytes than the text has
left_fits : (in_comment : Bool) (text : List ℕ) → length (left_of in_comment text) ≤ length text
left_fits in_comment [] = omega arith
left_fits in_comment (b ∷ rest) = grind (arith, cases_Bool, left_fits false rest, left_fits true rest)

-- the trimmed text of a piece is no longer than the piece
trimmed_fits : (piece : List ℕ) → length (trimmed piece) ≤ length piece
trimmed_fits piece = rw (trimmed_is piece) (left_fits false piece)

-- the bytes of a line that was found are not left after it
pub line_less : (before after : Left) (line : Bor (List ℕ)) → GivesLine before (Some line) after
    → length line.now + 1 + most_pieces after.text ≤ most_pieces before.text
line_less before after line found = let some = left_pieces after in grind (arith, found.1 some.0 some.1, pieces_less, trimmed_fits)

-- fewer items are left after an item
pub items_less : (before after : Left) (piece : List ℕ) → 0 < length (trimmed piece)
    → ((others : List (List ℕ)) → PiecesLeft after others → Skipped before (piece ∷ others))
    → most_items after.text < most_items before.text
items_less before after piece some h = let left = left_pieces after in grind (arith, h left.0 left.1, pieces_less, trimmed_fits)
