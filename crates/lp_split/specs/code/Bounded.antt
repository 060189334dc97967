-- Streams whose pieces have a greatest length: the text that a stream holds, and the part of it that a call takes.
use Rattle.std.specs.Prelude.{◌≡◌, ℕ, ◌+◌, ◌-◌, ◌^◌, ◌<◌, ◌≤◌, List, [], ◌∷◌, ◌++◌, length, take, drop, Option, Some, None}
use Rattle.std.specs.Prelude.{Result, Ok, Err, IfSome}
use Rattle.std.specs.Borrow.{Bor}
use Rattle.lp_format.specs.format.{Dialect, newline, newlines_in, IsCutPiece, IsLastPiece}
use Rattle.lp_split.specs.declared.{split.Mark.Mark, stream.bounded.Counted.Counted, stream.bounded.Skipped.Skipped}
use Rattle.lp_split.specs.declared.{stream.bounded.Skipped.TheVariants.Nothing, stream.bounded.Skipped.TheVariants.Within}
use Rattle.lp_split.specs.declared.{stream.bounded.Skipped.TheVariants.Ended, stream.bounded.PieceTooLong.PieceTooLong}
use Rattle.lp_split.specs.code.{Searches.FindsCut, Streams.Held, Tracks.IsTrackOf, Tracks.most_counted}

-- a bounded stream: the bytes that are kept, and the data about the bytes that were skipped
pub record HeldWithin : Type 0 where
  pub limit : ℕ
  pub held : Held
  pub skipped : Skipped

-- a piece is too long: it has more bytes than the limit, and the limit is not `usize::MAX`, which means no limit
abbrev pub IsTooLong : ℕ → List ℕ → Type 0
IsTooLong limit piece = (limit < length piece) × (limit < 2 ^ 64 - 1)

-- a newline ends `piece`, the first piece of a text, and `rest` comes after this newline
abbrev pub CutsTo : Dialect → List ℕ → List ℕ → List ℕ → Type 0
CutsTo dialect text piece rest = (text ≡ piece ++ newline ∷ rest) × IsCutPiece dialect piece

-- `counted` has the number of bytes and the number of newlines among them
abbrev pub Counts : Counted → List ℕ → Type 0
Counts counted bytes = (counted.len ≡ length bytes) × (counted.newlines ≡ newlines_in bytes)

-- the text that came after the last cut: the bytes that are kept, or a piece that is too long, of which the first `limit` bytes are kept, and
-- the bytes that came after it
abbrev pub HoldsBy : ℕ → Held → Skipped → List ℕ → Type 0
HoldsBy limit held Nothing text = text ≡ held.bytes
HoldsBy limit held (Within track counted) text =
    IsTooLong limit text × (held.bytes ≡ take limit text) × IsTrackOf held.dialect text track × Counts counted text
HoldsBy limit held (Ended counted) text =
    (piece rest : List ℕ) × IsTooLong limit piece × (held.bytes ≡ take limit piece ++ rest) × CutsTo held.dialect text piece rest
    × Counts counted piece

-- of a piece that is too long, at least `limit` bytes are kept, and neither the counts of its track nor its newlines are more than its bytes
abbrev pub IsKept : ℕ → Held → Skipped → Type 0
IsKept limit held Nothing = Unit {0}
IsKept limit held (Within track counted) =
    (limit ≤ length held.bytes) × (most_counted track ≤ counted.len) × (counted.newlines ≤ counted.len)
IsKept limit held (Ended counted) = limit ≤ length held.bytes

-- the stream holds this text
abbrev pub Holds : HeldWithin → List ℕ → Type 0
Holds stream text = HoldsBy stream.limit stream.held stream.skipped text

-- how many bytes a stream keeps
abbrev pub kept : HeldWithin → ℕ
kept stream = length stream.held.bytes

-- 1 if a piece that is too long was skipped to its end and its fault is still to come, else 0
abbrev pub faults_to_come : Skipped → ℕ
faults_to_come (Ended newlines) = 1
faults_to_come other = 0

-- the greatest number of pieces and faults that a stream can give before another part comes
abbrev pub most_given : HeldWithin → ℕ
most_given stream = kept stream + faults_to_come stream.skipped

-- the dialect and the greatest length of a piece stay
abbrev pub KeepsRules : HeldWithin → HeldWithin → Type 0
KeepsRules before after = (after.held.dialect ≡ before.held.dialect) × (after.limit ≡ before.limit)

-- the fault tells of this piece, which is too long: the number of its newlines, its length, and its first `limit` bytes
abbrev pub TellsOf : ℕ → List ℕ → PieceTooLong → Type 0
TellsOf limit piece fault =
    IsTooLong limit piece × (fault.newlines ≡ newlines_in piece) × (fault.len ≡ length piece)
    × (fault.front.now ≡ take limit piece)

-- a call on a stream that holds `text` gives its first piece that a newline ends, or a fault in its place if the piece is too long; if the
-- call gives neither, the stream keeps no more bytes than a piece can have
abbrev pub GivesOf : HeldWithin → List ℕ → Option (Result (Bor (List ℕ)) PieceTooLong) → HeldWithin → Type 0
GivesOf before text None after = Holds after text × IsLastPiece before.held.dialect text × (kept after ≤ before.limit)
GivesOf before text (Some (Ok piece)) after =
    (rest : List ℕ) × (length piece.now ≤ before.limit) × CutsTo before.held.dialect text piece.now rest × Holds after rest
GivesOf before text (Some (Err fault)) after =
    (piece rest : List ℕ) × TellsOf before.limit piece fault × CutsTo before.held.dialect text piece rest × Holds after rest

-- a call gives the first piece, or a fault in its place, of each text that the stream can hold; the stream keeps no more bytes than before,
-- and after a piece or a fault fewer can be given
abbrev pub GivesWithin : HeldWithin → Option (Result (Bor (List ℕ)) PieceTooLong) → HeldWithin → Type 0
GivesWithin before result after =
    KeepsRules before after × (kept after ≤ kept before) × IfSome result (λ _. most_given after < most_given before)
    × ((text : List ℕ) → Holds before text → GivesOf before text result after)

-- the first piece is too long: `counted` counts it, and the first `held` bytes that are kept are of this piece and its newline
abbrev pub IsLongFirst : HeldWithin → Counted → ℕ → List ℕ → Type 0
IsLongFirst stream counted held text =
    (piece : List ℕ) × IsTooLong stream.limit piece × CutsTo stream.held.dialect text piece (drop held stream.held.bytes)
    × Counts counted piece × (take stream.limit stream.held.bytes ≡ take stream.limit piece)

-- a call finds the first cut, or finds that the first piece is too long, or finds no piece that a newline ends
abbrev pub FindsWithin : HeldWithin → Option (Result Mark (Counted × ℕ)) → HeldWithin → Type 0
FindsWithin before None after = GivesWithin before None after
FindsWithin before (Some (Ok cut)) after =
    (after ≡ before) × (before.skipped ≡ Nothing) × FindsCut before.held.dialect before.held.bytes (Some cut) × (cut.at ≤ before.limit)
FindsWithin before (Some (Err long)) after =
    (after ≡ before) × (before.limit ≤ long.1) × (long.1 ≤ kept before) × (0 < long.1 + faults_to_come before.skipped)
    × ((text : List ℕ) → Holds before text → IsLongFirst before long.0 long.1 text)

-- a call takes the first `held` bytes that are kept, and gives a fault with these counts
abbrev pub TakesLong : HeldWithin → Counted → ℕ → PieceTooLong → HeldWithin → Type 0
TakesLong before counted held fault after =
    (fault.newlines ≡ counted.newlines) × (fault.len ≡ counted.len) × (fault.front.now ≡ take before.limit before.held.bytes)
    × KeepsRules before after × (after.skipped ≡ Nothing) × (after.held.bytes ≡ drop held before.held.bytes)

-- the whole text that the stream holds is too long for a piece, and `counted` counts it
abbrev pub IsLongLast : HeldWithin → Counted → List ℕ → Type 0
IsLongLast stream counted text =
    IsTooLong stream.limit text × Counts counted text × (take stream.limit stream.held.bytes ≡ take stream.limit text)

-- a call finds the counts of the last piece, if this piece is too long
abbrev pub FindsLast : HeldWithin → Option Counted → Type 0
FindsLast stream None = (stream.skipped ≡ Nothing) × (kept stream ≤ stream.limit)
FindsLast stream (Some counted) =
    (stream.limit ≤ kept stream)
    × ((text : List ℕ) → Holds stream text → IsLastPiece stream.held.dialect text → IsLongLast stream counted text)

-- a call gives a text that is one piece, or a fault in its place if the piece is too long
abbrev pub IsLastOf : ℕ → List ℕ → Result (Bor (List ℕ)) PieceTooLong → Type 0
IsLastOf limit text (Ok piece) = (piece.now ≡ text) × (length text ≤ limit)
IsLastOf limit text (Err fault) = TellsOf limit text fault

-- a call gives the last piece, and the stream then holds nothing
abbrev pub GivesLastWithin : HeldWithin → Result (Bor (List ℕ)) PieceTooLong → HeldWithin → Type 0
GivesLastWithin before result after =
    KeepsRules before after × Holds after []
    × ((text : List ℕ) → Holds before text → IsLastPiece before.held.dialect text → IsLastOf before.limit text result)

-- a call gives a fault for a piece that no newline has ended exactly if this piece is already too long
abbrev pub TellsSoFar : HeldWithin → Option PieceTooLong → Type 0
TellsSoFar stream None = (text : List ℕ) → Holds stream text → IsLastPiece stream.held.dialect text → length text ≤ stream.limit
TellsSoFar stream (Some fault) =
    (text : List ℕ) → Holds stream text → IsLastPiece stream.held.dialect text → TellsOf stream.limit text fault
