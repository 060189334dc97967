-- What the rows of a block show by offsets.
use Rattle.std.proofs.Common.{◌≡◌, ◌∙◌, ℕ, ◌+◌, ◌-◌, ◌≤◌, List, [], length, map, take, drop, Option, Some, None, Result, Ok, Err}
use Rattle.std.proofs.Common.{refl, sym, ap, subst, arith, IsUtf8}
use Rattle.std.proofs.lemmas.List.{drop-take, length-take-le, take-take}
use Rattle.influxdb_line_protocol.specs.format.Lines as format
use Rattle.influxdb_line_protocol.specs.format.Readings.{Fault}
use Rattle.influxdb_line_protocol.specs.types.SpelledFault.{SpelledFault}
use Rattle.lp_offsets.specs.OffsetBlocks.{AnswersRow, BeginsAt, HasNoFault, HasNoLine, HasNoTime, IsNoTextAt, IsPlaced, PutsRow, ShowsItem, came_number, fault as is_fault, line as is_line, no_text as is_no_text, piece_in, timestamp_in}
use Rattle.lp_format.specs.format.{Dialect, trimmed}
use Rattle.lp_events.specs.code.Stops.{reading_stop}
use Rattle.lp_offsets.specs.Offsets.{field_at, tag_at}
use Rattle.lp_offsets.specs.Placing.{ToldAnswer}
use Rattle.lp_offsets.specs.declared.offsets.Came.{Came}
use Rattle.lp_offsets.specs.declared.offsets.OffsetRow.{OffsetRow}
use Rattle.lp_offsets.specs.declared.placed.OffsetPart.{OffsetPart}
use Rattle.lp_offsets.specs.declared.placed.Span.{Span}
use Rattle.lp_offsets.specs.declared.placing.Told.{Told}
use Rattle.lp_offsets.specs.declared.pieces.Piece.{Piece}

-- a line that was told, and has all its places, is shown by its row
pub line_answers : (read : Result format.Line Fault) (kept : Option SpelledFault) (text : List ℕ) (parts : List OffsetPart) (room : List ℕ)
    (told : Told) (used : ℕ) (row : OffsetRow) → ToldAnswer read kept text parts room used told → kept ≡ None
    → told.tags + told.fields ≤ length parts → row.tags ≡ told.tags → row.fields ≡ told.fields
    → row.measurement ≡ told.name.span → row.measurement_copied ≡ told.name.copied → timestamp_in row ≡ told.timestamp
    → (told.timestamp ≡ None → HasNoTime row) → told.used ≤ length room → row.room_len ≡ told.used - used
    → AnswersRow read Came.Line text parts room used (row.tags + row.fields) told.used row
line_answers (Err fault) None text parts room told used row is none fits tags fields span copied time no_time enough takes = absurd is
line_answers (Err fault) (Some kept) text parts room told used row is none fits tags fields span copied time no_time enough takes = absurd (cc)
line_answers (Ok read) (Some kept) text parts room told used row is none fits tags fields span copied time no_time enough takes = absurd is
line_answers (Ok read) None text parts room told used row is none fits tags fields span copied time no_time enough takes =
    let shows = is.shows fits in
    let own = row.tags + row.fields in
    let front : take row.tags (take own parts) ≡ take told.tags parts =
    ap (λ n. take n (take own parts)) tags ∙ take-take told.tags own parts (omega (arith, tags)) in
    let back : take row.fields (drop row.tags (take own parts)) ≡ take told.fields (drop told.tags parts) =
    rw (tags, fields) (ap (take told.fields) (drop-take told.tags told.fields parts)
    ∙ take-take told.fields told.fields (drop told.tags parts) (omega arith)) in
    let all : own ≤ length parts = omega (arith, tags, fields, fits) in (
      record {
        measurement = rw (span, copied) shows.measurement;
        tags = λ enough r same. ap (map (tag_at text r)) front ∙ shows.tags enough r same;
        fields = λ enough r same. ap (map (field_at text r)) back ∙ shows.fields enough r same;
        timestamp = time ∙ shows.timestamp;
        no_timestamp = λ without. no_time (shows.timestamp ∙ without);
        room_len = rw (span, copied, tags, fields) (omega (arith, takes, shows.takes enough));
        all = length-take-le own parts all;
      },
      all,
    )

-- what came of a line is what was put down of its piece
pub line_puts : (dialect : Dialect) (text : List ℕ) (piece : Piece) (read : Result format.Line Fault) (came : Came)
    (parts : List OffsetPart) (room : List ℕ) (used own all : ℕ) (row : OffsetRow) → IsUtf8 (piece_in text piece)
    → format.answer dialect (trimmed (piece_in text piece)) ≡ read → AnswersRow read came text parts room used own all row
    → (came ≡ Came.Fault → row.stop_at ≡ piece.at + piece.len - length (reading_stop dialect (trimmed (piece_in text piece))).1)
    → row.answer ≡ came_number came → (came ≡ Came.Line → HasNoFault row) → (came ≡ Came.Fault → HasNoLine row)
    → BeginsAt text piece row → (came ≡ Came.Line → row.stop_at ≡ piece.at + piece.len)
    → PutsRow dialect text piece came (take own parts) (length parts) room used all row
line_puts dialect text piece (Ok l) Came.Line parts room used own all row utf8 answered is stop numbered line fault begins end =
    is_line l numbered (line refl) utf8 begins (end refl) answered is.0
line_puts dialect text piece (Ok l) Came.Fault parts room used own all row utf8 answered is stop numbered line fault begins end = absurd is
line_puts dialect text piece (Ok l) Came.NotUtf8 parts room used own all row utf8 answered is stop numbered line fault begins end = absurd is
line_puts dialect text piece (Ok l) Came.MoreParts parts room used own all row utf8 answered is stop numbered line fault begins end =
    record { read = l; answered = answered; too_much = is }
line_puts dialect text piece (Ok l) Came.MoreRoom parts room used own all row utf8 answered is stop numbered line fault begins end =
    record { read = l; answered = answered; too_much = is }
line_puts dialect text piece (Err f) Came.Line parts room used own all row utf8 answered is stop numbered line fault begins end = absurd is
line_puts dialect text piece (Err f) Came.Fault parts room used own all row utf8 answered is stop numbered line fault begins end =
    is_fault f numbered (fault refl) utf8 begins answered is.0 is.1 (stop refl) (ap (λ n. take n parts) is.2)
line_puts dialect text piece (Err f) Came.NotUtf8 parts room used own all row utf8 answered is stop numbered line fault begins end = absurd is
line_puts dialect text piece (Err f) Came.MoreParts parts room used own all row utf8 answered is stop numbered line fault begins end = absurd is
line_puts dialect text piece (Err f) Came.MoreRoom parts room used own all row utf8 answered is stop numbered line fault begins end = absurd is

-- a row that keeps its place has it
pub placed_on : (piece : Piece) (line parts : ℕ) (old row : OffsetRow)
    → (row.piece ≡ old.piece) × (row.line ≡ old.line) × (row.parts_at ≡ old.parts_at) → (row.key ≡ old.key) × (row.verdict ≡ old.verdict)
    → IsPlaced piece line parts old → IsPlaced piece line parts row
placed_on piece line parts old row same kept placed = record {
  at = ap (λ (span : Span). span.at) same.0 ∙ placed.at;
  len = ap (λ (span : Span). span.len) same.0 ∙ placed.len;
  line_is = same.1 ∙ placed.line_is;
  parts_at = same.2 ∙ placed.parts_at;
  kept = (kept.0 ∙ placed.kept.0, kept.1 ∙ placed.kept.1);
}

module _ (old row : OffsetRow) (is : row ≡ record old { answer = came_number Came.NotUtf8; stop_at = row.stop_at }) where
  -- a row of a piece that is not UTF-8 keeps its place
  pub bare_placed : (piece : Piece) (line parts : ℕ) → IsPlaced piece line parts old → IsPlaced piece line parts row
  bare_placed piece line parts =
      placed_on piece line parts old row
      (ap (λ (r : OffsetRow). r.piece) is, ap (λ (r : OffsetRow). r.line) is, ap (λ (r : OffsetRow). r.parts_at) is)
      (ap (λ (r : OffsetRow). r.key) is, ap (λ (r : OffsetRow). r.verdict) is)

  -- it shows that the piece is not UTF-8
  pub bare_shown : (dialect : Dialect) (text : List ℕ) (piece : Piece) (room : List ℕ) (used : ℕ) → HasNoFault old → HasNoLine old
      → ¬ IsUtf8 (piece_in text piece) → IsNoTextAt text piece row → ShowsItem dialect text piece [] room used row
  bare_shown dialect text piece room used clear line bare at =
      is_no_text (ap (λ (r : OffsetRow). r.answer) is) (subst HasNoFault (sym is) clear) (subst HasNoLine (sym is) line) bare at refl
