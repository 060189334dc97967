-- The result of a call of `next` on a `ParseLines`.
use Rattle.std.specs.Prelude.{◌≡◌, ℕ, ◌<◌, ◌^◌, true, List, ◌∷◌, [], ◌++◌, length, Option, Some, None, IfSome, Result, IfOk, All}
use Rattle.lp_format.specs.format.{Dialect, Left, PiecesLeft, trimmed, answer}
use Rattle.lp_format.specs.code.Light.{is_light}
use Rattle.lp_values.specs.{declared.error.Error.Error, code.Outcomes.IsNotOutOfMemory}
use Rattle.lp_lines.specs.{declared.parsed.ParsedLine.ParsedLine, code.Lookups.columns, code.Parsed.Answers}
pub use Rattle.lp_events.specs.code.LineSteps.{IsBlankPiece, GaveLine, HadBlankPieces, GivesLine, most_items}

-- a line that was read has at least one tag, if it has a tag set
abbrev pub HasNoEmptyTagSet : Result ParsedLine Error → Type 0
HasNoEmptyTagSet item = IfOk item (λ line. IfSome line.series.tag_set (λ tags. 0 < length tags.items))

-- the columns of a line that was read can be counted: their number fits a `usize`
abbrev pub CanCountColumns : Result ParsedLine Error → Type 0
CanCountColumns item = IfOk item (λ line. columns line < 2 ^ 64)

-- the item is the answer for a trimmed text, or is `OutOfMemory`, but never if the text is light; the tag set of a line that was read is not
-- empty, and its columns can be counted
pub record IsItemOf (dialect : Dialect) (line : List ℕ) (item : Result ParsedLine Error) : Type 0 where
  pub answers : Answers item (answer dialect line)
  pub light : is_light dialect line ≡ true → IsNotOutOfMemory item
  pub tags : HasNoEmptyTagSet item
  pub columns_fit : CanCountColumns item

-- blank pieces were left, then a piece that is not blank and has this item, and then the others
pub record GaveItem (before : Left) (item : Result ParsedLine Error) (others : List (List ℕ)) : Type 0 where
  pub skipped : List (List ℕ)
  pub piece : List ℕ
  pub left : PiecesLeft before (skipped ++ piece ∷ others)
  pub blank : All IsBlankPiece skipped
  pub some : 0 < length (trimmed piece)
  pub item_is : IsItemOf before.dialect (trimmed piece) item

-- a call gives the item of the first piece that is not blank and leaves the pieces after it, whatever the item is, or gives `None` if only
-- blank pieces are left, and then leaves no piece
abbrev pub GivesItem : Left → Option (Result ParsedLine Error) → Left → Type 0
GivesItem before None after = HadBlankPieces before × PiecesLeft after []
GivesItem before (Some item) after =
    (after.dialect ≡ before.dialect) × ((others : List (List ℕ)) → PiecesLeft after others → GaveItem before item others)
