-- The rows of a block, one after another.
use Rattle.std.proofs.Common.{◌≡◌, ◌∙◌, ℕ, ◌+◌, ◌<◌, ◌≤◌, List, [], ◌∷◌, ◌++◌, length, take, drop, Option, Some}
use Rattle.std.proofs.Common.{◌-◌, ◌^◌, min, refl, sym, ap, arith, subst, true, false, Bool}
use Rattle.std.specs.Prelude.{slice_set}
use borrow.Rule.Slice.PartMut.{post_of, put_mid}
use Rattle.std.proofs.Math.Seq.{take-add}
use Rattle.std.proofs.lemmas.Bool.{false≢true}
use Rattle.std.proofs.lemmas.List.{drop-set, drop_all, drop_at, length-take-le, take-append-le, take-set, take_all, take_more_set}
use Rattle.influxdb_line_protocol.specs.format.Dialects.{Dialect}
use Rattle.lp_offsets.specs.OffsetBlocks.{HasNewlines, IsBlankIn, IsPieceIn, IsPlaced, OffsetRows, PassesBlanks, PutsRow, ReadsRow, ReadsRows, ShowsItem}
use Rattle.lp_offsets.specs.OffsetBlocks.{blank, fault, has_row, is_too_much, line, more, no_text, none}
use Rattle.lp_offsets.specs.Rooms.{Grows}
use Rattle.lp_offsets.specs.declared.offsets.Came.{Came}
use Rattle.lp_offsets.specs.declared.offsets.Filled.{Filled}
use Rattle.lp_offsets.specs.declared.offsets.OffsetRow.{OffsetRow}
use Rattle.lp_offsets.specs.declared.pieces.Piece.{Piece}
use Rattle.lp_offsets.specs.declared.pieces.Spot.{Spot}
use Rattle.lp_offsets.specs.declared.placed.OffsetPart.{OffsetPart}
use Rattle.lp_offsets.proofs.RoomLemmas.{shows_on}

-- what was put down shows its item, if it has a place
pub puts_shows : (dialect : Dialect) (text : List ℕ) (piece : Piece) (came : Came) (own : List OffsetPart) (left : ℕ) (room : List ℕ)
    (used all : ℕ) (row : OffsetRow) → PutsRow dialect text piece came own left room used all row → is_too_much came ≡ false
    → ShowsItem dialect text piece own room all row
puts_shows dialect text piece Came.Line own left room used all row puts fits = puts
puts_shows dialect text piece Came.Fault own left room used all row puts fits = puts
puts_shows dialect text piece Came.NotUtf8 own left room used all row puts fits = puts
puts_shows dialect text piece Came.MoreParts own left room used all row puts fits = absurd (false≢true (sym fits))
puts_shows dialect text piece Came.MoreRoom own left room used all row puts fits = absurd (false≢true (sym fits))

-- the own parts of a row come after those before it
pub own_after : (at own k : ℕ) (parts new : List OffsetPart) → at ≤ length parts → own ≤ length new
    → take (at + own) (put_mid at k parts new) ≡ take at (put_mid at k parts new) ++ take own new
own_after at own k parts new within fits =
    let all = put_mid at k parts new in
    let later : drop at all ≡ new ++ post_of at k parts =
    drop_at (take at parts) (new ++ post_of at k parts) at (length-take-le at parts within) in
    take-add at own all
    ∙ ap (λ l. take at all ++ l) (ap (take own) later ∙ take-append-le own new (post_of at k parts) fits)

module _ (dialect : Dialect) (last : Bool) (text : List ℕ) where
  -- what is shown stays so as the room grows
  item_on : (piece : Piece) (own : List OffsetPart) (mid new : List ℕ) (m all : ℕ) (row : OffsetRow) → Grows mid m new all
      → ShowsItem dialect text piece own mid m row → ShowsItem dialect text piece own new all row
  item_on piece own mid new m all row grows (line read is clear utf8 begins end answered shows) = line read is clear utf8 begins end answered (record {
    measurement = shows_on _ _ mid new m all grows shows.measurement;
    tags = shows_on _ _ mid new m all grows shows.tags;
    fields = shows_on _ _ mid new m all grows shows.fields;
    timestamp = shows.timestamp;
    no_timestamp = shows.no_timestamp;
    room_len = shows.room_len;
    all = shows.all;
  })
  item_on piece own mid new m all row grows (fault f is clear utf8 begins answered kind side stop none_own) =
      fault f is clear utf8 begins answered kind side stop none_own
  item_on piece own mid new m all row grows (no_text is clear bare not there none_own) = no_text is clear bare not there none_own

  -- so it is with all rows
  pub rows_on : (from : Spot) (mid new : List ℕ) (m all : ℕ) (rows : List OffsetRow) (parts : List OffsetPart) (spot : Spot)
      → Grows mid m new all → OffsetRows dialect last text from mid m rows parts spot
      → OffsetRows dialect last text from new all rows parts spot
  rows_on from mid new m all rows parts spot grows none = none
  rows_on from mid new m all rows parts spot grows (blank rows₁ parts₁ at piece before is_at is is_blank) =
      blank rows₁ parts₁ at piece (rows_on from mid new m all rows₁ parts₁ at grows before) is_at is is_blank
  rows_on from mid new m all rows parts spot grows (more rows₁ parts₁ at piece row own before is_at is placed shows) =
      more rows₁ parts₁ at piece row own (rows_on from mid new m all rows₁ parts₁ at grows before) is_at is placed
      (item_on piece own mid new m all row grows shows)

  -- blank pieces that are passed add no row
  pub rows_pass : (from : Spot) (room : List ℕ) (used : ℕ) (rows : List OffsetRow) (parts : List OffsetPart) (spot to : Spot)
      → OffsetRows dialect last text from room used rows parts spot → PassesBlanks dialect last text spot to
      → OffsetRows dialect last text from room used rows parts to
  rows_pass from room used rows parts spot to before none = before
  rows_pass from room used rows parts spot to before (blank at piece passes is_at is is_blank) =
      blank rows parts at piece (rows_pass from room used rows parts spot at before passes) is_at is is_blank

  module _ (from : Spot) (mid new : List ℕ) (rows : List OffsetRow) (old_parts parts : List OffsetPart) (old filled : Filled) (i : ℕ)
      (row : OffsetRow) (came : Option Came) (here : i < length rows) (grows : Grows mid old.room new filled.room)
      (kept : take old.parts parts ≡ take old.parts old_parts) (fits : old.parts ≤ length parts) (within : old.parts ≤ length old_parts)
      (before : OffsetRows dialect last text from mid old.room (take i rows) (take old.parts old_parts) old.spot)
      (reads : ReadsRow dialect last text old came row parts new filled) where
    -- the rows before, in the room as it is now, with the parts as they are now
    so_far : OffsetRows dialect last text from new filled.room (take i rows) (take old.parts parts) old.spot
    so_far = subst (λ ps. OffsetRows dialect last text from new filled.room (take i rows) ps old.spot) (sym kept)
        (rows_on from mid new old.room filled.room (take i rows) (take old.parts old_parts) old.spot grows before)

    -- a row more was filled
    pub row_more : has_row came ≡ true
        → OffsetRows dialect last text from new filled.room (take (i + 1) (slice_set rows i row)) (take filled.parts parts) filled.spot
    row_more has =
        let taken = reads.takes has in
        let passed = rows_pass from new filled.room (take i rows) (take old.parts parts) old.spot taken.spot so_far taken.passes in
        let size : length (take old.parts parts) ≡ old.parts = length-take-le old.parts parts fits in
        let placed : IsPlaced taken.piece taken.spot.line (length (take old.parts parts)) row = record {
          at = taken.placed.at;
          len = taken.placed.len;
          line_is = taken.placed.line_is;
          parts_at = taken.placed.parts_at ∙ sym size;
          kept = taken.placed.kept;
        } in
        rw (take_more_set rows i row here, taken.parts_are, taken.after)
        (more (take i rows) (take old.parts parts) taken.spot taken.piece row taken.own passed taken.at taken.is placed taken.shows)

    -- no row more was filled
    pub row_none : has_row came ≡ false → ReadsRows dialect last text from (slice_set rows i row) parts new filled i came
    row_none none_has =
        let passed = reads.passes none_has in
        let next_row : drop i (slice_set rows i row) ≡ row ∷ drop (i + 1) rows = drop-set rows i row here in
        record {
          reads = rw (take-set rows i row, passed.1)
              (rows_pass from new filled.room (take i rows) (take old.parts parts) old.spot filled.spot so_far passed.0);
          stops = rw next_row passed.3;
        }

-- each row is filled
pub all_filled : (dialect : Dialect) (last : Bool) (text : List ℕ) (from : Spot) (rows : List OffsetRow) (parts : List OffsetPart)
    (room : List ℕ) (filled : Filled) (i : ℕ) → length rows ≤ i
    → OffsetRows dialect last text from room filled.room (take i rows) (take filled.parts parts) filled.spot
    → ReadsRows dialect last text from rows parts room filled (length rows) (Some Came.Line)
all_filled dialect last text from rows parts room filled i past before =
    let same : take (length rows) rows ≡ take i rows = take_all (length rows) rows (omega arith) ∙ sym (take_all i rows past) in
    let no_row : drop (length rows) rows ≡ [] = drop_all (length rows) rows (omega arith) in
    record { reads = rw same before; stops = rw no_row refl }

-- a blank piece more is passed
pub blank_more : (dialect : Dialect) (last : Bool) (text : List ℕ) (from spot after : Spot) (piece : Piece) → PassesBlanks dialect last text from spot
    → (piece.at ≡ spot.at) × IsPieceIn dialect last text piece × HasNewlines text piece → IsBlankIn text piece
    → after ≡ record { at = piece.next; line = min (spot.line + piece.newlines) (2 ^ 64 - 1) }
    → PassesBlanks dialect last text from after
blank_more dialect last text from spot after piece so_far is is_blank new =
    subst (PassesBlanks dialect last text from) (sym (new ∙ ap (λ n. record { at = piece.next; line = min (spot.line + n) (2 ^ 64 - 1) }) is.2))
    (PassesBlanks.blank spot piece so_far is.0 is.1 is_blank)
