-- Many items in one call, by offsets.
use Rattle.std.specs.Prelude.{◌≡◌, ◌⊎◌, ◌<◌, ◌≤◌, ◌+◌, ◌-◌, ◌^◌, ◌==◌, ℕ, ℤ, pos, Bool, true, false, List, [], ◌∷◌, ◌++◌, length, map, min, not, take, drop}
use Rattle.std.specs.Borrow.{Bor}
use Rattle.std.specs.List.{sum_by}
use Rattle.std.specs.Prelude.{if◌then◌else◌, Option, Some, None, Result, Ok, Err, IsUtf8}
use Rattle.std.specs.Str.{IsValidUpTo}
use Rattle.influxdb_line_protocol.specs.format.Dialects.{Dialect}
use Rattle.influxdb_line_protocol.specs.format.Lines as format
use Rattle.influxdb_line_protocol.specs.format.Lines.{logical_field, logical_tag, some_tags}
use Rattle.influxdb_line_protocol.specs.format.Pieces.{IsFirstCut, IsLastPiece}
use Rattle.influxdb_line_protocol.specs.format.Readings.{Fault}
use Rattle.lp_format.specs.format.Bytes.{newlines_in}
use Rattle.lp_format.specs.format.Trimming.{trimmed}
use Rattle.lp_events.specs.code.Stops.{reading_stop}
use Rattle.lp_split.specs.code.{AreSeen}
use Rattle.lp_offsets.specs.Numbers.{answer_number, fault_number, fault_seen, side_number}
use Rattle.lp_offsets.specs.Offsets.{bytes_at, field_at, part_room, tag_at, text_room, texts_len}
use Rattle.lp_offsets.specs.Rooms.{Shows}
use Rattle.lp_offsets.specs.declared.offsets.Block.{Block}
use Rattle.lp_offsets.specs.declared.offsets.Came.{Came}
use Rattle.lp_offsets.specs.declared.offsets.Filled.{Filled}
use Rattle.lp_offsets.specs.declared.offsets.OffsetRow.{OffsetRow}
use Rattle.lp_offsets.specs.declared.placed.OffsetPart.{OffsetPart}
use Rattle.lp_offsets.specs.declared.pieces.Piece.{Piece}
use Rattle.lp_offsets.specs.declared.pieces.Seen.{Seen}
use Rattle.lp_offsets.specs.declared.pieces.Spot.{Spot}
use Rattle.lp_offsets.specs.declared.enums.Answer.{Answer}

-- the bytes of a piece
abbrev pub piece_in : List ℕ → Piece → List ℕ
piece_in text piece = take piece.len (drop piece.at text)

-- the bytes of a piece, and the newline that ends it, if one does: those up to the place where the next piece begins
abbrev pub passed_with : List ℕ → Piece → List ℕ
passed_with text piece = take (piece.next - piece.at) (drop piece.at text)

-- a piece tells how many newlines come up to the next one
abbrev pub HasNewlines : List ℕ → Piece → Type 0
HasNewlines text piece = piece.newlines ≡ newlines_in (passed_with text piece)

-- what was seen is of this text: a portion of it, and, at a place, the bytes that tell of a cut
abbrev pub IsSeenOf : Dialect → List ℕ → Seen → Type 0
IsSeenOf dialect text seen = (seen.portion.bytes.now ≡ text) × AreSeen dialect (drop seen.at text) seen.marks

-- a piece of the text: a newline ends it, and the next one comes after that; or it is the last one, with which the text ends
abbrev pub IsPieceIn : Dialect → Bool → List ℕ → Piece → Type 0
IsPieceIn dialect last text piece =
    (IsFirstCut dialect (drop piece.at text) (Some piece.len) × (piece.next ≡ piece.at + piece.len + 1) × (piece.next ≤ length text))
    ⊎ ((last ≡ true) × IsLastPiece dialect (drop piece.at text) × (piece.at + piece.len ≡ length text) × (piece.next ≡ length text)
    × (piece.at < length text))

-- no piece is left: the text has ended; or what is left of it is a piece that goes on in the text that comes
abbrev pub IsNoPieceAt : Dialect → Bool → List ℕ → ℕ → Type 0
IsNoPieceAt dialect true text at = at ≡ length text
IsNoPieceAt dialect false text at = IsLastPiece dialect (drop at text)

-- a number as 32 bits hold it: one that is too great is at their greatest
abbrev pub in_32 : ℕ → ℕ
in_32 n = min n (2 ^ 32 - 1)

-- where the next piece begins, and in which line: a newline more ends the line, and the end of the text does not
abbrev pub spot_after : List ℕ → Spot → Piece → Spot
spot_after text spot piece = record {
  at = piece.next;
  line = min (spot.line + newlines_in (passed_with text piece)) (2 ^ 64 - 1);
}

-- the piece holds nothing but blanks and comments
abbrev pub IsBlankIn : List ℕ → Piece → Type 0
IsBlankIn text piece = IsUtf8 (piece_in text piece) × (length (trimmed (piece_in text piece)) ≡ 0)

-- so far only blank pieces are passed
pub data PassesBlanks (dialect : Dialect) (last : Bool) (text : List ℕ) (from : Spot) : Spot → Type 0 where
  none : PassesBlanks dialect last text from from
  blank : (spot : Spot) (piece : Piece) → PassesBlanks dialect last text from spot → piece.at ≡ spot.at
      → IsPieceIn dialect last text piece → IsBlankIn text piece → PassesBlanks dialect last text from (spot_after text spot piece)

-- the line of a piece that is not blank, if the piece is UTF-8
abbrev pub IsItemIn : List ℕ → Piece → Option (Bor (List ℕ)) → Type 0
IsItemIn text piece None = ¬ IsUtf8 (piece_in text piece)
IsItemIn text piece (Some line) =
    IsUtf8 (piece_in text piece) × (line.now ≡ trimmed (piece_in text piece)) × (length line.now < 2 ^ 63)

-- the timestamp that a row shows
abbrev pub timestamp_in : OffsetRow → Option ℤ
timestamp_in row = if row.has_timestamp == 1 then Some row.timestamp else None

-- a row shows no timestamp
abbrev pub HasNoTime : OffsetRow → Type 0
HasNoTime row = (row.has_timestamp ≡ 0) × (row.timestamp ≡ pos 0)

-- a row and its parts show this line: so does each room that has the bytes in use
pub record ShowsRow (read : format.Line) (text : List ℕ) (own : List OffsetPart) (room : List ℕ) (used : ℕ) (row : OffsetRow) : Type 0 where
  pub measurement : Shows (λ r. bytes_at text r row.measurement_copied row.measurement) room used read.measurement.bytes
  pub tags : Shows (λ r. map (tag_at text r) (take row.tags own)) room used (map (λ tag. Some (logical_tag tag)) (some_tags read.tags))
  pub fields : Shows (λ r. map (field_at text r) (take row.fields (drop row.tags own))) room used
      (map (λ field. Some (logical_field field)) read.fields)
  pub timestamp : timestamp_in row ≡ read.timestamp
  pub no_timestamp : read.timestamp ≡ None → HasNoTime row
  pub room_len : row.room_len ≡ text_room row.measurement_copied row.measurement + sum_by part_room own
  pub all : length own ≡ row.tags + row.fields

-- the number of the answer for what came of an item
abbrev pub came_number : Came → ℕ
came_number Came.Line = answer_number Answer.Line
came_number Came.Fault = answer_number Answer.Fault
came_number Came.NotUtf8 = answer_number Answer.NotUtf8
came_number Came.MoreParts = answer_number Answer.MoreParts
came_number Came.MoreRoom = answer_number Answer.MoreRoom

-- what a row tells of a line that takes more parts, or more room, than are left: how many of either, and of room no more bytes than the
-- texts of the line have
pub record IsTooMuch (read : format.Line) (came : Came) (row : OffsetRow) (parts room used : ℕ) : Type 0 where
  pub answer : row.answer ≡ came_number came
  pub tags : row.tags ≡ in_32 (length (some_tags read.tags))
  pub fields : row.fields ≡ in_32 (length read.fields)
  pub needed : ℕ
  pub room_len : row.room_len ≡ in_32 needed
  pub bound : needed ≤ texts_len read
  pub parts_lack : came ≡ Came.MoreParts → parts < length (some_tags read.tags) + length read.fields
  pub room_lacks : came ≡ Came.MoreRoom → room < used + needed

-- whether an item takes more than is left
abbrev pub is_too_much : Came → Bool
is_too_much Came.MoreParts = true
is_too_much Came.MoreRoom = true
is_too_much came = false

-- how many parts the item of a row has
abbrev pub own_of : Came → OffsetRow → ℕ
own_of Came.Line row = row.tags + row.fields
own_of came row = 0

-- a row shows no fault
abbrev pub HasNoFault : OffsetRow → Type 0
HasNoFault row = (row.fault ≡ 0) × (row.side ≡ 0)

-- a row shows nothing of a line
abbrev pub HasNoLine : OffsetRow → Type 0
HasNoLine row =
    (row.tags ≡ 0) × (row.fields ≡ 0) × HasNoTime row × (row.measurement ≡ record { at = 0; len = 0 }) × (row.measurement_copied ≡ 0)
    × (row.room_len ≡ 0)

-- a row tells where the line of a piece begins: what is left of the piece when it is trimmed is its end
abbrev pub BeginsAt : List ℕ → Piece → OffsetRow → Type 0
BeginsAt text piece row = row.line_at ≡ piece.at + piece.len - length (trimmed (piece_in text piece))

-- of a piece that is not UTF-8 a row tells where it begins, and its first byte with which it is no UTF-8: up to there it is, and no longer
-- front of it is
pub record IsNoTextAt (text : List ℕ) (piece : Piece) (row : OffsetRow) : Type 0 where
  pub begins : row.line_at ≡ piece.at
  pub front : ℕ
  pub stops : row.stop_at ≡ piece.at + front
  pub longest : IsValidUpTo (piece_in text piece) front

-- what came of a line: it is shown; or it takes more than is left; or its fault is shown
abbrev pub AnswersRow : Result format.Line Fault → Came → List ℕ → List OffsetPart → List ℕ → ℕ → ℕ → ℕ → OffsetRow → Type 0
AnswersRow (Ok read) Came.Line text parts room used own all row =
    ShowsRow read text (take own parts) room all row × (own ≤ length parts)
AnswersRow (Ok read) Came.MoreParts text parts room used own all row = IsTooMuch read Came.MoreParts row (length parts) (length room) used
AnswersRow (Ok read) Came.MoreRoom text parts room used own all row = IsTooMuch read Came.MoreRoom row (length parts) (length room) used
AnswersRow (Err fault) Came.Fault text parts room used own all row =
    (row.fault ≡ fault_number (fault_seen fault).kind) × (row.side ≡ side_number (fault_seen fault).side) × (own ≡ 0) × (all ≡ used)
AnswersRow read came text parts room used own all row = ⊥

-- what a row shows of the item of a piece: its line, its fault, or that it is not UTF-8
pub data ShowsItem (dialect : Dialect) (text : List ℕ) (piece : Piece) (own : List OffsetPart) (room : List ℕ) (used : ℕ)
    (row : OffsetRow) : Type 0 where
  line : (read : format.Line) → row.answer ≡ answer_number Answer.Line → HasNoFault row → IsUtf8 (piece_in text piece)
      → BeginsAt text piece row → row.stop_at ≡ piece.at + piece.len
      → format.answer dialect (trimmed (piece_in text piece)) ≡ Ok read → ShowsRow read text own room used row
      → ShowsItem dialect text piece own room used row
  fault : (fault : Fault) → row.answer ≡ answer_number Answer.Fault → HasNoLine row → IsUtf8 (piece_in text piece)
      → BeginsAt text piece row
      → format.answer dialect (trimmed (piece_in text piece)) ≡ Err fault
      → row.fault ≡ fault_number (fault_seen fault).kind → row.side ≡ side_number (fault_seen fault).side
      → row.stop_at ≡ piece.at + piece.len - length (reading_stop dialect (trimmed (piece_in text piece))).1
      → own ≡ [] → ShowsItem dialect text piece own room used row
  no_text : row.answer ≡ answer_number Answer.NotUtf8 → HasNoFault row → HasNoLine row → ¬ IsUtf8 (piece_in text piece)
      → IsNoTextAt text piece row → own ≡ []
      → ShowsItem dialect text piece own room used row

-- the line of a piece takes more than is left, as a row tells
pub record LacksPlace (dialect : Dialect) (text : List ℕ) (piece : Piece) (came : Came) (parts room used : ℕ) (row : OffsetRow) : Type 0 where
  pub read : format.Line
  pub answered : format.answer dialect (trimmed (piece_in text piece)) ≡ Ok read
  pub too_much : IsTooMuch read came row parts room used

-- what was put down of a piece: a row shows its item; or it tells that its line takes more than is left
abbrev pub PutsRow : Dialect → List ℕ → Piece → Came → List OffsetPart → ℕ → List ℕ → ℕ → ℕ → OffsetRow → Type 0
PutsRow dialect text piece Came.MoreParts own left room used all row = LacksPlace dialect text piece Came.MoreParts left (length room) used row
PutsRow dialect text piece Came.MoreRoom own left room used all row = LacksPlace dialect text piece Came.MoreRoom left (length room) used row
PutsRow dialect text piece came own left room used all row = ShowsItem dialect text piece own room all row

-- a row tells where its piece lies, and in which line it begins; and so many parts come before its own
pub record IsPlaced (piece : Piece) (line parts : ℕ) (row : OffsetRow) : Type 0 where
  pub at : row.piece.at ≡ piece.at
  pub len : row.piece.len ≡ piece.len
  pub line_is : row.line ≡ line
  pub parts_at : row.parts_at ≡ parts
  pub kept : (row.key ≡ 0) × (row.verdict ≡ 0)

-- the rows are the items of the next pieces, in order, but for blank ones, each with its own parts after those of the rows before it
pub data OffsetRows (dialect : Dialect) (last : Bool) (text : List ℕ) (from : Spot) (room : List ℕ) (used : ℕ)
    : List OffsetRow → List OffsetPart → Spot → Type 0 where
  none : OffsetRows dialect last text from room used [] [] from
  blank : (rows : List OffsetRow) (parts : List OffsetPart) (spot : Spot) (piece : Piece)
      → OffsetRows dialect last text from room used rows parts spot → piece.at ≡ spot.at → IsPieceIn dialect last text piece
      → IsBlankIn text piece → OffsetRows dialect last text from room used rows parts (spot_after text spot piece)
  more : (rows : List OffsetRow) (parts : List OffsetPart) (spot : Spot) (piece : Piece) (row : OffsetRow) (own : List OffsetPart)
      → OffsetRows dialect last text from room used rows parts spot → piece.at ≡ spot.at → IsPieceIn dialect last text piece
      → IsPlaced piece spot.line (length parts) row → ShowsItem dialect text piece own room used row
      → OffsetRows dialect last text from room used (rows ++ row ∷ []) (parts ++ own) (spot_after text spot piece)

-- blank pieces were passed, and then a piece, of which a row shows the item
pub record TakesPiece (dialect : Dialect) (last : Bool) (text : List ℕ) (old : Filled) (row : OffsetRow) (parts : List OffsetPart)
    (room : List ℕ) (new : Filled) : Type 0 where
  pub spot : Spot
  pub piece : Piece
  pub passes : PassesBlanks dialect last text old.spot spot
  pub at : piece.at ≡ spot.at
  pub is : IsPieceIn dialect last text piece
  pub placed : IsPlaced piece spot.line old.parts row
  pub own : List OffsetPart
  pub parts_are : take new.parts parts ≡ take old.parts parts ++ own
  pub shows : ShowsItem dialect text piece own room new.room row
  pub after : new.spot ≡ spot_after text spot piece

-- the line of the next piece takes more than is left
pub record LacksPlaceAt (dialect : Dialect) (last : Bool) (text : List ℕ) (spot : Spot) (came : Came) (parts room used : ℕ)
    (row : OffsetRow) : Type 0 where
  pub piece : Piece
  pub at : piece.at ≡ spot.at
  pub is : IsPieceIn dialect last text piece
  pub lacks : LacksPlace dialect text piece came parts room used row

-- whether an item has a row
abbrev pub has_row : Option Came → Bool
has_row None = false
has_row (Some came) = not (is_too_much came)

-- why there is no row: no piece is left, or the line of the next one takes more than is left
abbrev pub HasNoRow : Dialect → Bool → List ℕ → Spot → Option Came → ℕ → ℕ → ℕ → OffsetRow → Type 0
HasNoRow dialect last text spot None parts room used row = IsNoPieceAt dialect last text spot.at
HasNoRow dialect last text spot (Some came) parts room used row = LacksPlaceAt dialect last text spot came parts room used row

-- a row was filled, or blank pieces alone were passed
pub record ReadsRow (dialect : Dialect) (last : Bool) (text : List ℕ) (old : Filled) (came : Option Came) (row : OffsetRow)
    (parts : List OffsetPart) (room : List ℕ) (new : Filled) : Type 0 where
  pub takes : has_row came ≡ true → TakesPiece dialect last text old row parts room new
  pub passes : has_row came ≡ false → PassesBlanks dialect last text old.spot new.spot × (new.parts ≡ old.parts) × (new.room ≡ old.room)
      × HasNoRow dialect last text new.spot came (length parts - new.parts) (length room) new.room row

-- why no more rows are filled: no row is left, or the next item has none, as the row after the filled ones tells
abbrev pub StopsRows : Dialect → Bool → List ℕ → Filled → Option Came → List OffsetRow → ℕ → ℕ → Type 0
StopsRows dialect last text new came [] parts room = came ≡ Some Came.Line
StopsRows dialect last text new came (row ∷ rows) parts room = HasNoRow dialect last text new.spot came (parts - new.parts) room new.room row

-- so many rows were filled, each with its parts, and why no more
pub record ReadsRows (dialect : Dialect) (last : Bool) (text : List ℕ) (from : Spot) (rows : List OffsetRow) (parts : List OffsetPart)
    (room : List ℕ) (new : Filled) (count : ℕ) (came : Option Came) : Type 0 where
  pub reads : OffsetRows dialect last text from room new.room (take count rows) (take new.parts parts) new.spot
  pub stops : StopsRows dialect last text new came (drop count rows) (length parts) (length room)

-- the number of the answer for a block that ended so
abbrev pub block_answer : Option Came → Bool → ℕ
block_answer (Some came) last = came_number came
block_answer None true = answer_number Answer.End
block_answer None false = answer_number Answer.MoreText

-- where a block begins in a text: at its end, if the place is past that
abbrev pub begins_at : List ℕ → Block → Spot
begins_at text block = record { at = min (length text) block.at; line = block.line }

-- where a block ended, and how much it filled
abbrev pub filled_in : Block → Filled
filled_in block = record { spot = record { at = block.at; line = block.line }; parts = block.parts; room = block.room }

-- a block was read: so many rows were filled, and why no more
pub record ReadsOffsets (dialect : Dialect) (last : Bool) (text : List ℕ) (before : Block) (rows : List OffsetRow)
    (parts : List OffsetPart) (room : List ℕ) (after : Block) (answer : ℕ) : Type 0 where
  pub came : Option Came
  pub answered : answer ≡ block_answer came last
  pub fits : (after.rows ≤ length rows) × (after.parts ≤ length parts) × (after.room ≤ length room)
  pub reads : ReadsRows dialect last text (begins_at text before) rows parts room (filled_in after) after.rows came
