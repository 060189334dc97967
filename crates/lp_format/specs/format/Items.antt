-- The answers for a text, one for each piece that holds more than blanks and comments, and its items.
use Rattle.std.specs.Prelude.{◌≡◌, ℕ, ◌==◌, List, [], ◌∷◌, length, map, if◌then◌else◌, Result, Ok, Err, flat_map}
use Rattle.lp_format.specs.format.{Dialects.Dialect, Readings.Fault, Points.Point, Trimming.trimmed, Pieces.Pieces}
use Rattle.lp_format.specs.format.Lines.{Line, answer, point_of}

-- the answers for a piece: no answer if its trimmed text is empty, else the answer for its trimmed text
unfoldable pub answers_of_piece : Dialect → List ℕ → List (Result Line Fault)
answers_of_piece dialect piece = if length (trimmed piece) == 0 then [] else answer dialect (trimmed piece) ∷ []

-- the answers for pieces, in order
abbrev pub answers_of : Dialect → List (List ℕ) → List (Result Line Fault)
answers_of dialect pieces = flat_map (answers_of_piece dialect) pieces

-- the answers for a text are the answers for its pieces, in order
pub record HasAnswers (dialect : Dialect) (text : List ℕ) (answers : List (Result Line Fault)) : Type 0 where
  pub pieces : List (List ℕ)
  pub are : Pieces dialect text pieces
  pub answered : answers ≡ answers_of dialect pieces

-- the item of an answer: the point of a line, or the fault
abbrev pub item_of : Result Line Fault → Result Point Fault
item_of (Ok line) = Ok (point_of line)
item_of (Err fault) = Err fault

-- the items of a text are the items of its answers, in order
abbrev pub HasItems : Dialect → List ℕ → List (Result Point Fault) → Type 0
HasItems dialect text items = (answers : List (Result Line Fault)) × HasAnswers dialect text answers × (items ≡ map item_of answers)
