-- The next line of a text: its next piece that is not blank, trimmed.
use Rattle.std.specs.Prelude.{◌≡◌, ℕ, ◌<◌, List, ◌∷◌, [], ◌++◌, length, Option, Some, None, All}
use Rattle.std.specs.Borrow.{Bor}
use Rattle.lp_format.specs.format.{Left, PiecesLeft, trimmed}

-- a piece is blank: its trimmed text is empty
abbrev pub IsBlankPiece : List ℕ → Type 0
IsBlankPiece piece = length (trimmed piece) ≡ 0

-- blank pieces were left, then a piece whose trimmed text is `line` and not empty, and then the others
pub record GaveLine (before : Left) (line : List ℕ) (others : List (List ℕ)) : Type 0 where
  pub skipped : List (List ℕ)
  pub piece : List ℕ
  pub left : PiecesLeft before (skipped ++ piece ∷ others)
  pub blank : All IsBlankPiece skipped
  pub some : 0 < length line
  pub line_is : line ≡ trimmed piece

-- only blank pieces were left
pub record HadBlankPieces (before : Left) : Type 0 where
  pub skipped : List (List ℕ)
  pub left : PiecesLeft before skipped
  pub blank : All IsBlankPiece skipped

-- a call gives the line of the first piece that is not blank and leaves the pieces after it, or gives `None` if only blank pieces are left,
-- and then leaves no piece
abbrev pub GivesLine : Left → Option (Bor (List ℕ)) → Left → Type 0
GivesLine before None after = HadBlankPieces before × PiecesLeft after []
GivesLine before (Some line) after =
    (after.dialect ≡ before.dialect) × ((others : List (List ℕ)) → PiecesLeft after others → GaveLine before line.now others)

-- the greatest number of items that the text left can have
abbrev pub most_items : Option (List ℕ) → ℕ
most_items None = 0
most_items (Some text) = length text
