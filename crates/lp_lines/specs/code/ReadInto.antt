-- The result of a call of `next_into` on a `ParseLines`, and the line that it reads into.
use Rattle.std.specs.Prelude.{◌≡◌, ℕ, ◌≤◌, true, List, [], Option, Some, None, IfSome, Result, Ok, Err, OnErr}
use Rattle.lp_values.specs.{declared.error.Error.Error, code.Outcomes.IsNotOutOfMemory, code.Texts.text_of}
use Rattle.lp_lines.specs.{declared.parsed.ParsedLine.ParsedLine, code.Lookups.room_of, code.Lookups.some_items}
use Rattle.lp_format.specs.{code.Light.is_light_in, format.Pieces.Left, format.Pieces.PiecesLeft}
use Rattle.lp_events.specs.code.LineSteps.{GaveLine}

-- an empty line: it has no series text, no measurement, no tags, no fields and no timestamp
pub record IsEmptyLine (line : ParsedLine) : Type 0 where
  pub raw : line.series.raw_input.now ≡ []
  pub measurement : text_of line.series.measurement ≡ []
  pub tags : some_items line.series.tag_set ≡ []
  pub fields : line.field_set.items ≡ []
  pub timestamp : line.timestamp ≡ None

-- the item of an answer, where `line` is the line that was read into
abbrev pub item_in : {X : Type 0} → ParsedLine → Result X Error → Result ParsedLine Error
item_in line (Ok done) = Ok line
item_in line (Err e) = Err e

-- the line is empty if the answer is an error
abbrev pub LeavesEmpty : {X : Type 0} → ParsedLine → Option (Result X Error) → Type 0
LeavesEmpty line answer = IfSome answer (λ r. OnErr r (IsEmptyLine line))

-- the tag set of the new line, if there is one, has at least the room of the old tag set
abbrev pub KeepsTagRoom : ParsedLine → ParsedLine → Type 0
KeepsTagRoom old new = IfSome new.series.tag_set (λ tags. room_of old.series.tag_set ≤ tags.capacity)

-- the line of the first piece that is not blank was read into sets with room for this many tags and fields: the answer is not `OutOfMemory` if
-- the line is light in this room
pub record GaveInRoom {X : Type 0} (tags fields : ℕ) (before : Left) (answer : Result X Error) (others : List (List ℕ)) : Type 0 where
  pub line : List ℕ
  pub gave : GaveLine before line others
  pub light : is_light_in tags fields before.dialect line ≡ true → IsNotOutOfMemory answer

-- a call that gives an answer gives it for the first line that is left, and not `OutOfMemory` if this line is light in this room
abbrev pub GivesInRoom : {X : Type 0} → ℕ → ℕ → Left → Option (Result X Error) → Left → Type 0
GivesInRoom tags fields before None after = Unit {0}
GivesInRoom tags fields before (Some answer) after =
    (others : List (List ℕ)) → PiecesLeft after others → GaveInRoom tags fields before answer others
