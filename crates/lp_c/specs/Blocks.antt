-- Many items in one call.
use Rattle.std.specs.Prelude.{◌≡◌, ◌≤◌, ◌+◌, ◌==◌, ℕ, false, true, List, [], ◌∷◌, ◌++◌, length, take, drop, if◌then◌else◌}
use Rattle.std.specs.List.{sum_by}
use Rattle.lp_c.specs.Crossing.{ReadsItem, is_item}
use Rattle.lp_offsets.specs.Numbers.{answer_number}
use Rattle.lp_c.specs.declared.blocks.Row.{Row}
use Rattle.lp_offsets.specs.declared.enums.Answer.{Answer}
use Rattle.lp_c.specs.declared.views.Lines.{Lines}
use Rattle.lp_c.specs.declared.views.Part.{Part}

-- how many parts a row has: those of its line, if it has one
abbrev pub parts_of : Row → ℕ
parts_of row = if row.answer == answer_number Answer.Line then row.line.tags + row.line.fields else 0

-- a row and its own parts are what a call for one item gives, the cursor moves past that item, and so much of the room is left
pub record IsRow (before : Lines) (room : ℕ) (row : Row) (own : List Part) (left : ℕ) (after : Lines) : Type 0 where
  pub passes : is_item row.answer ≡ true
  pub has : length own ≡ parts_of row
  pub reads : ReadsItem before room left row.answer row.line own after

-- the rows are the next items, in order, each with its own parts after those of the rows before it, and with the room that
-- these left; the cursor is after them
pub data Rows (before : Lines) (lent : ℕ) : List Row → List Part → ℕ → Lines → Type 0 where
  -- no row: the cursor is where it was, and all the room is there
  none : Rows before lent [] [] lent before
  -- one row more
  more : (rows : List Row) (parts : List Part) (room : ℕ) (passed : Lines) (row : Row) (own : List Part) (left : ℕ) (after : Lines)
      → Rows before lent rows parts room passed → row.parts_at ≡ length parts → IsRow passed room row own left after
      → Rows before lent (rows ++ row ∷ []) (parts ++ own) left after

-- why no more rows are filled: no row is left; or the next item has none, since there is no item, or since it takes more parts or
-- more room than are left, as the row says. Then the cursor is before that item. The room is as the rows left it
abbrev pub Stops : Lines → ℕ → ℕ → List Row → List Part → ℕ → Lines → Type 0
Stops passed room left [] parts answer after = (answer ≡ answer_number Answer.Line) × (after ≡ passed) × (left ≡ room)
Stops passed room left (row ∷ rows) parts answer after =
    (is_item answer ≡ false) × ReadsItem passed room left answer row.line parts after

-- so many rows were filled, and why no more; what is left of the room is all but the bytes that their lines tell
pub record ReadsBlock (before : Lines) (lent left : ℕ) (rows : List Row) (parts : List Part) (filled answer : ℕ) (after : Lines) : Type 0 where
  pub used : ℕ
  pub passed : Lines
  pub room : ℕ
  pub fits : filled ≤ length rows
  pub reads : Rows before lent (take filled rows) (take used parts) room passed
  pub stops : Stops passed room left (drop filled rows) (drop used parts) answer after
  pub taken : left + sum_by (λ row. row.line.copied_len) (take filled rows) ≡ lent
