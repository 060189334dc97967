-- The items that calls of `next` on a `ParseLines` give, one after another.
use Rattle.std.specs.Prelude.{ℕ, ◌==◌, if◌then◌else◌, List, [], ◌∷◌, ◌++◌, length, Some, Result, Ok, flat_map}
use Rattle.std.specs.{Iterator.Drains, Iterator.Yields, List.AllZip}
use Rattle.lp_format.specs.format.{Dialect, Fault, trimmed, Left, PiecesLeft, Line, HasAnswers, Pieces.Pieces}
use Rattle.lp_values.specs.declared.error.Error.{Error}
use Rattle.lp_lines.specs.declared.parsed.ParsedLine.{ParsedLine}
use Rattle.lp_lines.specs.code.{Parsed.Answers, Parsed.IsReadLine, ParseSteps.GivesItem, ParseSteps.IsItemOf}

-- The trimmed text of a piece, in a list of one; an empty list if nothing is left of the piece.
abbrev pub trimmed_line : List ℕ → List (List ℕ)
trimmed_line piece = if length (trimmed piece) == 0 then [] else trimmed piece ∷ []

-- The trimmed texts of pieces, in order, without the pieces of which nothing is left.
abbrev pub trimmed_lines : List (List ℕ) → List (List ℕ)
trimmed_lines pieces = flat_map trimmed_line pieces

-- The items are the items of these trimmed texts, one for each text, in order.
abbrev pub AreItemsOf : Dialect → List (List ℕ) → List (Result ParsedLine Error) → Type 0
AreItemsOf dialect lines items = AllZip (IsItemOf dialect) lines items

-- The items are these answers, one for each, in order. In the place of any answer, the item may be `OutOfMemory`.
abbrev pub AreAnswers : List (Result ParsedLine Error) → List (Result Line Fault) → Type 0
AreAnswers items answers = AllZip Answers items answers

-- From the first call of `next` for a text to the call that gives `None`, the items are the items of its trimmed pieces: one for each piece
-- of which something is left, in order.
abbrev pub ItemsAreOfPieces : Type 0
ItemsAreOfPieces = (dialect : Dialect) (text : List ℕ) (pieces : List (List ℕ)) (items : List (Result ParsedLine Error))
    → Pieces dialect text pieces → Drains GivesItem (record { dialect = dialect; text = Some text }) items
    → AreItemsOf dialect (trimmed_lines pieces) items

-- From the first call of `next` for a text to the call that gives `None`, the items are the answers for the text. In the place of any
-- answer, the item may be `OutOfMemory`.
abbrev pub ItemsAreAnswers : Type 0
ItemsAreAnswers = (dialect : Dialect) (text : List ℕ) (answers : List (Result Line Fault)) (items : List (Result ParsedLine Error))
    → HasAnswers dialect text answers → Drains GivesItem (record { dialect = dialect; text = Some text }) items
    → AreAnswers items answers

-- After any number of calls of `next`, the items are the items of the pieces before the pieces that are left.
abbrev pub ItemsSoFar : Type 0
ItemsSoFar = (dialect : Dialect) (text : List ℕ) (items : List (Result ParsedLine Error)) (left : Left) (others : List (List ℕ))
    → Yields GivesItem (record { dialect = dialect; text = Some text }) items left → PiecesLeft left others
    → (front : List (List ℕ)) × Pieces dialect text (front ++ others) × AreItemsOf dialect (trimmed_lines front) items

-- Each line that a call of `next` gives was read: it is the answer for some trimmed text.
abbrev pub GivenLinesWereRead : Type 0
GivenLinesWereRead = (before after : Left) (line : ParsedLine) → GivesItem before (Some (Ok line)) after → IsReadLine line
