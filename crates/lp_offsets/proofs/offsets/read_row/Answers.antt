use Rattle.std.proofs.Common.{◌≡◌, ◌≤◌, ◌+◌, ◌-◌, ◌^◌, ◌∙◌, [], ap, append-nil, length, min, sym, take, false}
use Rattle.std.specs.Prelude.{not}
use Rattle.std.proofs.lemmas.Bool.{false≢true}
use Rattle.influxdb_line_protocol.specs.format.Lines.{answer}
use Rattle.lp_offsets.specs.Numbers.{dialect_of}
use Rattle.lp_offsets.specs.OffsetBlocks.{PutsRow, is_too_much, own_of}
use Rattle.lp_offsets.proofs.PlacedLemmas.{line_in_text, piece_fits}
use Rattle.lp_offsets.proofs.RowLemmas.{bare_placed, bare_shown, line_puts, placed_on}
use Rattle.lp_offsets.proofs.RowsLemmas.{own_after, puts_shows}
use Rattle.lp_offsets.proofs.offsets.read_row.Goals as goal

pub invariant_of-line_in : goal.invariant_of-line_in
invariant_of-line_in c =
    let item = rw c.in-Some.is at c.in_ok-piece.ensures.gives.3 in
    let within : c.in_ok-piece.piece.at + c.in_ok-piece.piece.len ≤ length c.args.source.text.now =
    piece_fits _ c.args.source.last c.args.source.text.now c.in_ok-piece.piece c.in_ok-piece.ensures.gives.1 in
    record { lies = line_in_text c.args.source.text.now c.in-Some.line.now c.in_ok-piece.piece within c.requires.text.0 item.1 }

pub returns-in_default-clause-reads : goal.returns-in_default-clause-reads
returns-in_default-clause-reads c =
    let piece = c.in_ok-piece.piece in
    let spot = c.next_item.new.spot in
    let gives = c.in_ok-piece.ensures.gives in
    let same = c.show_no_text.ensures.answer in
    record {
      takes = λ has. record {
        spot = spot;
        piece = piece;
        passes = c.next_item.ensures.passes;
        at = gives.0;
        is = gives.1;
        placed = bare_placed c.begun_row.result c.show_no_text.new.row same piece spot.line c.args.reading.now.filled.parts c.begun_row.ensures.placed;
        own = [];
        parts_are = sym (append-nil (take c.args.reading.now.filled.parts c.args.parts.now));
        shows = bare_shown c.begun_row.result c.show_no_text.new.row same _ c.args.source.text.now piece _ _ c.begun_row.ensures.shows.0
            c.begun_row.ensures.shows.1 (rw c.in_default.is at gives.3) c.show_no_text.ensures.shows;
        after = c.pass.ensures ∙ ap (λ n. record { at = piece.next; line = min (spot.line + n) (2 ^ 64 - 1) }) gives.2;
      };
      passes = λ no. absurd (false≢true (sym no));
    }

pub returns-then-not-is_too_much-clause-reads : goal.returns-then-not-is_too_much-clause-reads
returns-then-not-is_too_much-clause-reads c =
    let put = c.put_line-came in
    let dialect = dialect_of c.args.source.dialect in
    let text = c.args.source.text.now in
    let piece = c.in_ok-piece.piece in
    let filled = c.args.reading.now.filled in
    let spot = c.next_item.new.spot in
    let gives = c.in_ok-piece.ensures.gives in
    let item = rw c.in-Some.is at gives.3 in
    let own = own_of put.result.0 put.new.row in
    let fits : is_too_much put.result.0 ≡ false =
    sym c.is_too_much.ensures ∙ c.if-not-is_too_much.true in
    let answers = rw c.dialect_of.ensures at put.ensures.answers in
    let puts : PutsRow dialect text piece put.result.0 (take own put.new.parts) (length put.new.parts) put.new.room filled.room put.result.1 put.new.row =
    line_puts dialect text piece (answer dialect c.in-Some.line.now) put.result.0 put.new.parts put.new.room filled.room own put.result.1 put.new.row
    item.0 (sym (ap (answer dialect) item.1)) answers
    (λ is. rw (← item.1, ← c.dialect_of.ensures) (put.ensures.stop is))
    put.ensures.answer (λ is. put.ensures.line is c.begun_row.ensures.shows.0) (λ is. put.ensures.fault is c.begun_row.ensures.shows.1)
    (rw (← item.1) put.ensures.begins) put.ensures.end in
    record {
      takes = λ has. record {
        spot = spot;
        piece = piece;
        passes = c.next_item.ensures.passes;
        at = gives.0;
        is = gives.1;
        placed = placed_on piece spot.line filled.parts c.begun_row.result put.new.row put.ensures.piece put.ensures.kept c.begun_row.ensures.placed;
        own = take c.own_of.result put.new.parts;
        parts_are = own_after filled.parts c.own_of.result _ c.args.parts.now put.new.parts c.requires.parts.1 (rw c.own_of.ensures put.ensures.fits);
        shows = rw c.own_of.ensures (puts_shows dialect text piece put.result.0 _ _ put.new.room filled.room put.result.1 put.new.row puts fits);
        after = c.pass-then-not-is_too_much.ensures ∙ ap (λ n. record { at = piece.next; line = min (spot.line + n) (2 ^ 64 - 1) }) gives.2;
      };
      passes = λ no. absurd (false≢true (sym no ∙ ap not fits));
    }
