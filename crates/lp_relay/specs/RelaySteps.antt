-- What each step of a relay takes of the stream, and what it writes or holds of it.
use Rattle.std.specs.Prelude.{◌≡◌, ◌<◌, ℕ, ◌+◌, ◌-◌, ◌++◌, ◌^◌, List, [], ◌∷◌, length, take, string_bytes, Option}
use Rattle.std.specs.Prelude.{Bool, true, false, None, Some, is_some, Result, Ok, Err, MatchResult}
use Rattle.std.specs.Borrow.{Bor}
use Rattle.std.specs.Io.KnownBytes.{Appends}
use Rattle.influxdb_line_protocol.specs.format.Dialects.{Dialect}
use Rattle.influxdb_line_protocol.specs.format.Pieces.{IsLastPiece, Pieces}
use Rattle.influxdb_line_protocol.specs.types.PieceTooLong.{PieceTooLong}
use Rattle.influxdb_line_protocol.specs.code.Bounded.{CutsTo, HeldWithin, Holds, IsTooLong}
use Rattle.influxdb_line_protocol.specs.laws.StreamLaws.{Run}
use Rattle.influxdb_line_protocol.specs.code.Rules.{rules_of}
use Rattle.lp_relay.specs.declared.taking.Progress.{Progress}
use Rattle.lp_relay.specs.declared.taking.Pending.{Pending}
use Rattle.lp_conditions.specs.declared.settings.Numbering.{Numbering}
use Rattle.lp_conditions.specs.declared.settings.Numbering.TheVariants as named
use Rattle.lp_conditions.specs.declared.settings.Settings.{Settings}
use Rattle.lp_faults.specs.declared.telling.Place.{Place}
use Rattle.lp_conditions.specs.FieldTypes.{Types, types_of}
use Rattle.lp_faults.specs.FaultsTold.{after_piece, first_line, first_place, line_after, place_after, told_faults, told_items}
use Rattle.lp_conditions.specs.KindCounts.{Counts, counts_if}
use Rattle.lp_faults.specs.Kinds.{kinds_after, kinds_of_none}
use Rattle.lp_faults.specs.Objects.{bytes_given, seen_given, newlines_given, len_given}
use Rattle.lp_faults.specs.Relaying.{Item, kept_of, line_of, too_long, items_of_bytes, items_of, items_batch, carried_items}
use Rattle.lp_faults.specs.Relaying.{refused_items, refused_lines, refused_pieces, types_after, types_of_bytes, types_past}
use Rattle.lp_rebuild.specs.declared.program.RunFault.{RunFault}
use Rattle.lp_relay.specs.Relays.{RelaysFronts}
use Rattle.lp_relay.specs.Writers.{GainsFronts, Told, bytes_of}

-- the items of what a call gave: those of a piece, or that of one that is too long
abbrev pub items_given : Settings → Types → Result (Bor (List ℕ)) PieceTooLong → List Item
items_given s types (Ok piece) = items_of_bytes s types (line_of s piece.now)
items_given s types (Err _) = too_long (kept_of s) ∷ []

-- the types that fields have after what a call gave
abbrev pub types_given : Settings → Types → Result (Bor (List ℕ)) PieceTooLong → Types
types_given s types (Ok piece) = types_of_bytes s types (line_of s piece.now)
types_given s types (Err _) = types

-- what goes out as refused of what a call gave, if refused pieces go out
abbrev pub refused_given : Settings → Types → Result (Bor (List ℕ)) PieceTooLong → List ℕ
refused_given s types given = refused_lines s.puts_refused (bytes_given given) (items_given s types given)

-- what was made so far and is not written yet, how many items were carried and refused, with those already written and those counted
-- before the first one, and what the next fault line names
pub record Made : Type 0 where
  pub batch : List ℕ
  pub faults : List ℕ
  pub carried : ℕ
  pub refused : ℕ
  pub line : Option ℕ

-- how many items are counted before the first item, so that the next number is that of the first item
abbrev pub items_before : Numbering → ℕ → ℕ
items_before named.Items first = first - 1
items_before named.Lines first = 0

-- before the first item
abbrev pub made_of_none : Settings → Made
made_of_none s = record {
  batch = [];
  faults = [];
  carried = items_before s.numbering s.first;
  refused = 0;
  line = first_line s.faults s.numbering s.first;
}

-- what a relay has made so far
abbrev pub made : Progress → Made
made so_far = record {
  batch = so_far.batch.items;
  faults = string_bytes so_far.faults;
  carried = so_far.carried;
  refused = so_far.refused;
  line = so_far.line;
}

-- what was made so far and is not written yet; of the next piece, how many bytes come before it, and whether its fault was told ahead of
-- its end; and the types that fields have. `kinds` has how many items were refused for each kind of fault, if that is counted
pub record Unwritten : Type 0 where
  pub made : Made
  pub pieces : List ℕ
  pub offset : ℕ
  pub kinds : Option Counts
  pub ahead : Bool
  pub types : Types

-- before the first item
abbrev pub unwritten_of_none : Settings → Types → Unwritten
unwritten_of_none s types =
    record { made = made_of_none s; pieces = []; offset = s.first_offset; kinds = kinds_of_none s; ahead = false; types = types }

-- what a relay has not written yet
abbrev pub unwritten_of : Pending → Unwritten
unwritten_of pending = record {
  made = made pending.so_far;
  pieces = pending.pieces.items;
  offset = pending.offset;
  kinds = counts_if pending.kinds;
  ahead = pending.ahead;
  types = types_of pending.types;
}

-- the place of the next item, by the settings
abbrev pub next_place : Settings → Unwritten → Place
next_place s u = record {
  file = s.file;
  number = u.made.carried + u.made.refused + 1;
  refused = u.made.refused;
  line = u.made.line;
  offset = u.offset;
}

-- nothing that was made is held: all of it was written
abbrev pub HoldsNone : Pending → Type 0
HoldsNone pending =
    (pending.so_far.batch.items ≡ []) × (string_bytes pending.so_far.faults ≡ []) × (pending.pieces.items ≡ [])

-- of the lines, of the fault lines and of the refused pieces that were made, fewer bytes are held than this
abbrev pub HoldsLess : ℕ → Pending → Type 0
HoldsLess room pending =
    (length pending.so_far.batch.items < room) × (length (string_bytes pending.so_far.faults) < room)
    × (length pending.pieces.items < room)

-- how many items were counted, with those before the first one
abbrev pub counted : Pending → ℕ
counted pending = pending.so_far.carried + pending.so_far.refused

-- the place after these pieces
abbrev pub place_past : Settings → Types → Place → List (List ℕ) → Place
place_past s types place [] = place
place_past s types place (piece ∷ pieces) = place_past s (types_after s types piece) (after_piece s types place piece) pieces

-- the place after what a call gave
abbrev pub after_given : Settings → Types → Place → Result (Bor (List ℕ)) PieceTooLong → Place
after_given s types place given = place_after place (items_given s types given) (newlines_given given) (len_given given)

-- what is told of what a call gave, which is at this place
abbrev pub told_given : Settings → Types → Place → Result (Bor (List ℕ)) PieceTooLong → List ℕ
told_given s types place given = told_items s place (seen_given s given) (items_given s types given)

-- what a call gave was taken: its items and what is told of them, as refused what goes out of its piece, the kind of its fault, if
-- kinds are counted, and the types of its fields
pub record TakesGiven (s : Settings) (old : Unwritten) (result : Result (Bor (List ℕ)) PieceTooLong) (new : Unwritten)
    : Type 0 where
  pub batch : new.made.batch ≡ old.made.batch ++ items_batch (items_given s old.types result)
  pub faults : new.made.faults ≡ old.made.faults ++ told_given s old.types (next_place s old) result
  pub carried : new.made.carried ≡ old.made.carried + carried_items (items_given s old.types result)
  pub refused : new.made.refused ≡ old.made.refused + refused_items (items_given s old.types result)
  pub pieces : new.pieces ≡ old.pieces ++ refused_given s old.types result
  pub kinds : new.kinds ≡ kinds_after (items_given s old.types result) old.kinds
  pub ahead : new.ahead ≡ old.ahead
  pub types : new.types ≡ types_given s old.types result

-- what came of a piece that is too long was taken ahead of its end: its item and what is told of it. The next place is still that
-- of the piece, but for the number, and how many items were refused
pub record TakesAhead (s : Settings) (old : Unwritten) (result : Result (Bor (List ℕ)) PieceTooLong) (new : Unwritten)
    : Type 0 where
  pub takes : TakesGiven s old result (record new { ahead = old.ahead })
  pub place : next_place s new
      ≡ record (next_place s old) { number = (next_place s old).number + 1; refused = (next_place s old).refused + 1 }
  pub ahead : new.ahead ≡ true

-- a piece that was taken ahead has ended: the next place comes after it, and nothing else is made of it
pub record EndsAhead (old : Unwritten) (result : Result (Bor (List ℕ)) PieceTooLong) (new : Unwritten) : Type 0 where
  pub is : new ≡ record old { made = record old.made { line = new.made.line }; offset = new.offset; ahead = false }
  pub line : new.made.line ≡ line_after old.made.line (newlines_given result)
  pub offset : new.offset ≡ old.offset + len_given result + 1

-- what a call gave was taken, or it ended what was taken ahead
abbrev pub TakesBy : (ahead : Bool) → Settings → (old : Unwritten) → Result (Bor (List ℕ)) PieceTooLong → (new : Unwritten) → Type 0
TakesBy false s old result new = TakesGiven s old result new × (next_place s new ≡ after_given s old.types (next_place s old) result)
TakesBy true s old result new = EndsAhead old result new

-- a stage of a relay: what it has not written yet, and what its writers tell
pub record Stage : Type 0 where
  pub unwritten : Unwritten
  pub told : Told

-- where a relay is
abbrev pub stage_of : Pending → Told → Stage
stage_of pending told = record { unwritten = unwritten_of pending; told = told }

-- where a relay starts: what its writers tell, and the types that fields have
pub record Start : Type 0 where
  pub told : Told
  pub types : Types

-- a writer gained all of these bytes, but for what is left
abbrev pub GainsBut : Option (List ℕ) → Option (List ℕ) → (all left : List ℕ) → Type 0
GainsBut before after all left = (written : List ℕ) × Appends before after written × (all ≡ written ++ left)

-- what these pieces make, from the first one on, was written, or is held, their items were counted, and fields have their types
pub record HasMade (s : Settings) (pieces : List (List ℕ)) (before : Start) (now : Stage) : Type 0 where
  pub lines : GainsBut before.told.lines.bytes now.told.lines.bytes (items_batch (items_of s before.types pieces)) now.unwritten.made.batch
  pub faults : GainsBut before.told.faults.bytes now.told.faults.bytes (told_faults s before.types pieces) now.unwritten.made.faults
  pub refused : GainsBut before.told.refused.bytes now.told.refused.bytes (refused_pieces s before.types pieces) now.unwritten.pieces
  pub carried : now.unwritten.made.carried ≡ items_before s.numbering s.first + carried_items (items_of s before.types pieces)
  pub refusals : now.unwritten.made.refused ≡ refused_items (items_of s before.types pieces)
  pub kinds : now.unwritten.kinds ≡ kinds_after (items_of s before.types pieces) (kinds_of_none s)
  pub types : now.unwritten.types ≡ types_past s before.types pieces

-- the pieces of which all was made: those that were taken, and the front of the next one, if that was taken ahead of its end
abbrev pub made_of : (pieces : List (List ℕ)) → (ahead : Option (List ℕ)) → List (List ℕ)
made_of pieces None = pieces
made_of pieces (Some front) = pieces ++ front ∷ []

-- the next place: that of the next piece, with a number more, and an item more that was refused, if its item was counted ahead of its end
abbrev pub place_by : (ahead : Option (List ℕ)) → Place → Place
place_by None place = place
place_by (Some front) place = record place { number = place.number + 1; refused = place.refused + 1 }

-- these pieces were taken, from the first one on, and the front of the next one, if there is one here, ahead of its end
pub record HasTaken (s : Settings) (pieces : List (List ℕ)) (ahead : Option (List ℕ)) (before : Start) (now : Stage) : Type 0 where
  pub made : HasMade s (made_of pieces ahead) before now
  pub place : next_place s now.unwritten ≡ place_by ahead (place_past s before.types (first_place s) pieces)
  pub is_ahead : now.unwritten.ahead ≡ is_some ahead

-- each writer gained a front of what these pieces make
abbrev pub HasWritten : Settings → List (List ℕ) → (before : Start) (after : Told) → Type 0
HasWritten s pieces before after = GainsFronts before.told after
    (items_batch (items_of s before.types pieces)) (told_faults s before.types pieces) (refused_pieces s before.types pieces)

-- nothing of what was taken is lost from one stage to another; after a fault each writer has a front of it
abbrev pub Writes : Result (Unit {0}) RunFault → (old new : Stage) → Type 0
Writes result old new = (s : Settings) (pieces : List (List ℕ)) (ahead : Option (List ℕ)) (before : Start)
    → HasTaken s pieces ahead before old
    → MatchResult result (λ _. HasTaken s pieces ahead before new) (λ _. HasWritten s (made_of pieces ahead) before new.told)

-- what is left begins with this front, if there is one: it is too long for a piece, and no newline in it ends one
abbrev pub IsAhead : Settings → (left : List ℕ) → (ahead : Option (List ℕ)) → Type 0
IsAhead s left None = Unit {0}
IsAhead s left (Some front) =
    IsTooLong s.limit front × IsLastPiece (rules_of s.dialect) front × ((more : List ℕ) × (left ≡ front ++ more))

-- of what was given so far, all pieces were taken but for what is left, of which a front may be taken ahead
pub record SoFar (s : Settings) (given left : List ℕ) (before : Start) (now : Stage) : Type 0 where
  pub pieces : List (List ℕ)
  pub ahead : Option (List ℕ)
  pub run : Run (rules_of s.dialect) given pieces left
  pub is_ahead : IsAhead s left ahead
  pub taken : HasTaken s pieces ahead before now

-- of what was given so far, pieces were taken, and maybe a front of the next one, and each writer has a front of what they make
pub record SomeSoFar (s : Settings) (given : List ℕ) (before : Start) (after : Told) : Type 0 where
  pub pieces : List (List ℕ)
  pub ahead : Option (List ℕ)
  pub left : List ℕ
  pub run : Run (rules_of s.dialect) given pieces left
  pub is_ahead : IsAhead s left ahead
  pub written : HasWritten s (made_of pieces ahead) before after

-- a stream has the rules of the settings
abbrev pub HasRules : Settings → HeldWithin → Type 0
HasRules s stream = (stream.held.dialect ≡ rules_of s.dialect) × (stream.limit ≡ s.limit)

-- a relay can go on: its stream has the rules of the settings, a number for the next item is left, and less than a block is held
abbrev pub IsReady : Settings → HeldWithin → Pending → Type 0
IsReady s stream pending = HasRules s stream × (counted pending < 2 ^ 64) × HoldsLess 65536 pending

-- of what was given so far, all pieces that a newline ends were taken, and the stream holds what is left
abbrev pub SoFarBy : Settings → (given : List ℕ) → HeldWithin → (before : Start) → (now : Stage) → Type 0
SoFarBy s given stream before now =
    (left : List ℕ) × Holds stream left × SoFar s given left before now × IsLastPiece (rules_of s.dialect) left

-- the first piece of a text was taken; or none was, since no newline ends one
abbrev pub TakesFirst : Dialect → (text : List ℕ) → Bool → (left : List ℕ) → Type 0
TakesFirst dialect text true left = (piece : List ℕ) × CutsTo dialect text piece left
TakesFirst dialect text false left = IsLastPiece dialect left

-- whatever came before, the first piece of what the stream holds was relayed; or none was, since no newline ends one
abbrev pub RelaysFirst : Settings → Result Bool RunFault → (stream stream_after : HeldWithin) → (old new : Stage) → Type 0
RelaysFirst s result stream stream_after old new =
    (given text : List ℕ) (before : Start) → Holds stream text → SoFar s given text before old
    → MatchResult result
    (λ some. (left : List ℕ) × Holds stream_after left × SoFar s given left before new × TakesFirst (rules_of s.dialect) text some left)
    (λ _. SomeSoFar s given before new.told)

-- whatever came before, if nothing of it was left, lines of so many of these bytes were relayed, up to the end of one
abbrev pub RelaysLines : Settings → (bytes : List ℕ) → Result ℕ RunFault → (old new : Stage) → Type 0
RelaysLines s bytes result old new = (given : List ℕ) (before : Start) → SoFar s given [] before old
    → MatchResult result (λ taken. SoFar s (given ++ take taken bytes) [] before new) (λ _. SomeSoFar s (given ++ bytes) before new.told)

-- whatever came before, so much of a part was given too, and all pieces that a newline ends then were relayed
abbrev pub RelaysPart : {T : Type 0} → Settings → (part : List ℕ) → Result T RunFault → (taken : T → List ℕ)
    → (stream stream_after : HeldWithin) → (old new : Stage) → Type 0
RelaysPart s part result taken stream stream_after old new = (given : List ℕ) (before : Start) → SoFarBy s given stream before old
    → MatchResult result (λ x. SoFarBy s (given ++ taken x) stream_after before new) (λ _. SomeSoFar s (given ++ part) before new.told)

-- whatever came before, the last piece was relayed, and that is the end
abbrev pub RelaysLast : Settings → Result (Unit {0}) RunFault → (stream : HeldWithin) → (old new : Stage) → Type 0
RelaysLast s result stream old new = (given : List ℕ) (before : Start) → SoFarBy s given stream before old
    → MatchResult result
    (λ _. (pieces : List (List ℕ)) × Pieces (rules_of s.dialect) given pieces × HasTaken s pieces None before new)
    (λ _. RelaysFronts s before.types given (bytes_of before.told) (bytes_of new.told))

-- if what a stream holds is too long already, and no newline ended it, it was taken ahead
abbrev pub IsToldAhead : Settings → HeldWithin → (now : Unwritten) → Type 0
IsToldAhead s stream now =
    (text : List ℕ) → Holds stream text → IsLastPiece (rules_of s.dialect) text → IsTooLong s.limit text → now.ahead ≡ true

-- whatever came before, what a stream holds was taken ahead, or nothing was
abbrev pub RelaysAhead : Settings → HeldWithin → (old new : Unwritten) → Type 0
RelaysAhead s stream old new = (given : List ℕ) (before : Start) (told : Told)
    → SoFarBy s given stream before (record { unwritten = old; told = told })
    → SoFarBy s given stream before (record { unwritten = new; told = told })
