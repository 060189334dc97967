-- What comes of a piece once its item is known.
use Rattle.std.specs.Prelude.{◌≡◌, ◌<◌, ◌++◌, ℕ, ℤ, Ok, Some, true, List, [], ◌∷◌, length, Option, Result}
use Rattle.std.specs.{Result.result_unwrap_or, Str.IsUtf8}
use Rattle.influxdb_line_protocol.specs.format.Lines.{Line, answer}
use Rattle.influxdb_line_protocol.specs.format.Trimming.{trimmed}
use Rattle.influxdb_line_protocol.specs.format.Readings.{Fault}
use Rattle.influxdb_line_protocol.specs.code.Rules.{rules_of}
use Rattle.lp_faults.specs.declared.pieces.Piece.{Piece}
use Rattle.lp_faults.specs.declared.refusals.Refusal.{Refusal}
use Rattle.lp_conditions.specs.declared.settings.Settings.{Settings}
use Rattle.lp_relay.specs.declared.taking.Taken.{Taken}
use Rattle.lp_relay.specs.declared.taking.Taken.TheVariants as took
use Rattle.lp_conditions.specs.FieldTypes.{Types}
use Rattle.lp_faults.specs.Objects.{item_front, stop_given}
use Rattle.lp_faults.specs.Relaying.{Item, after_item, if_typed, is_carried_item, item_line, line_of}
use Rattle.lp_conditions.specs.LineTimes.{change_of, front_of, relayed, timed}
use Rattle.lp_conditions.specs.declared.times.{TimeChange.TheVariants.Becomes, Times.Times}
use Rattle.lp_conditions.specs.declared.field_types.StrictTypes.{StrictTypes}
use Rattle.lp_relay.specs.RelaySteps.{TakesGiven, Unwritten, items_given, types_given}
use Rattle.lp_faults.specs.Refusals.{IsRefusal, given_of, line_piece, front_in, stop_in, is_fault}

-- what came of the item of a text: its line was added, or it is refused for this
abbrev pub TakesItem : Taken → Item → (before after : List ℕ) → Type 0
TakesItem took.Blank item before after = ⊥
TakesItem took.Carried item before after = (is_carried_item item ≡ true) × (after ≡ before ++ item_line item)
TakesItem (took.Refused refusal) item before after = IsRefusal refusal item × (after ≡ before)

-- after that came of an item of an answer, of which what was added begins at this place, its types were kept by those that fields had
-- before, or it was refused for one of them
abbrev pub KeepsItem : Option StrictTypes → Result Line Fault → (at : ℕ) → Taken → (mid : List ℕ) → Types → (after : Taken)
    → (new : List ℕ) → (types_after : Types) → Type 0
KeepsItem strict answer at taken mid types after new types_after = (item : Item) (before piece : List ℕ) → at ≡ length before
    → TakesItem taken item before mid
    → TakesItem after (if_typed (front_of piece) item (after_item strict types answer item)) before new
    × (types_after ≡ result_unwrap_or (after_item strict types answer item) types)

-- a piece, before which fields have these types, has one item, which is refused for this
pub record RefusesPiece (s : Settings) (types : Types) (piece : Piece) (refusal : Refusal) (item : Item) : Type 0 where
  pub is : items_given s types (given_of piece) ≡ item ∷ []
  pub refused : IsRefusal refusal item
  pub front : item_front item ≡ front_in (line_piece s piece)
  pub stop : stop_given s (given_of piece) ≡ stop_in (is_fault refusal) (rules_of s.dialect) (line_piece s piece)

-- what came of a piece, before which fields have these types
abbrev pub TakesPiece : Settings → Types → Piece → Taken → (before after : List ℕ) → Type 0
TakesPiece s types piece took.Blank before after = (items_given s types (given_of piece) ≡ []) × (after ≡ before)
TakesPiece s types piece took.Carried before after =
    (item : Item) × (items_given s types (given_of piece) ≡ item ∷ []) × (is_carried_item item ≡ true) × (after ≡ before ++ item_line item)
TakesPiece s types piece (took.Refused refusal) before after = ((item : Item) × RefusesPiece s types piece refusal item) × (after ≡ before)

-- if that came of a piece after these lines and these types, and fields have the types after it, the piece was taken once it ended so
abbrev pub EndsPiece : Settings → Piece → Taken → (mid new : Unwritten) → Type 0
EndsPiece s piece taken mid new = (before : List ℕ) (types : Types) → TakesPiece s types piece taken before mid.made.batch
    → mid.types ≡ types_given s types (given_of piece)
    → TakesGiven s (record mid { made = record mid.made { batch = before }; types = types }) (given_of piece) new

-- a piece that is text has this line, of which this is left once it is trimmed
pub record HasLine (s : Settings) (whole piece text : List ℕ) : Type 0 where
  pub piece_is : piece ≡ line_of s whole
  pub text_is : text ≡ trimmed piece
  pub some : 0 < length text
  pub utf8 : IsUtf8 piece

-- a piece goes out as another one, whose line has its time and this answer
pub record HasTime (s : Settings) (whole piece : List ℕ) (a : Result Line Fault) : Type 0 where
  pub some : 0 < length (trimmed (line_of s whole))
  pub utf8 : IsUtf8 (line_of s whole)
  pub front : front_of piece ≡ front_of (line_of s whole)
  pub timed : timed s.times (line_of s whole) (answer (rules_of s.dialect) (trimmed (line_of s whole))) ≡ relayed piece a

-- a text is read as a line that came with this time, if any, and is to have another one
pub record BecomesAt (s : Settings) (text : List ℕ) (came : Option ℤ) (time : ℤ) : Type 0 where
  pub times : Times
  pub line : Line
  pub looked : s.times ≡ Some times
  pub read : answer (rules_of s.dialect) text ≡ Ok line
  pub timestamp : line.timestamp ≡ came
  pub becomes : change_of times came ≡ Becomes time
