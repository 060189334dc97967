use Rattle.std.proofs.Common.{◌∙◌, ◌<◌, ◌≤◌, arith, length, sym}
use Rattle.lp_offsets.specs.Numbers.{dialect_of}
use Rattle.lp_offsets.specs.OffsetBlocks.{none}
use Rattle.lp_offsets.proofs.RowsLemmas.{all_filled, row_more, row_none}
use Rattle.lp_offsets.proofs.offsets.read_rows.Goals as goal

pub loop-at-init : goal.loop-at-init
loop-at-init c = record {
  within = c.requires.text.1;
  parts = omega (arith, c.requires.none.0);
  room = omega (arith, c.requires.none.1);
  seen = c.requires.seen;
  reads = rw (c.requires.none.0, c.requires.none.1) none;
}

pub returns-then-not-has_row-clause-reads : goal.returns-then-not-has_row-clause-reads
returns-then-not-has_row-clause-reads c =
    let next = c.read_row-came in
    let was = c.loop-at in
    let here : was.at < length was.rows = omega (arith, c.loop-at-test.true, was.auto.rows) in
    row_none (dialect_of c.args.source.dialect) c.args.source.last c.args.source.text.now c.args.reading.now.filled.spot was.room next.new.room was.rows was.parts next.new.parts
    was.reading.filled next.new.reading.filled was.at next.new.row next.result here next.ensures.grows next.ensures.kept
    (omega (arith, was.invariant.parts, next.ensures.size)) was.invariant.parts was.invariant.reads next.ensures.reads
    (sym c.has_row.ensures ∙ c.if-not-has_row.true)

pub loop-at-preserved : goal.loop-at-preserved
loop-at-preserved c =
    let next = c.read_row-came in
    let was = c.loop-at in
    let here : was.at < length was.rows = omega (arith, c.loop-at-test.true, was.auto.rows) in
    record {
      within = next.ensures.fits.0;
      parts = next.ensures.fits.1;
      room = next.ensures.fits.2;
      seen = next.ensures.seen;
      reads = row_more (dialect_of c.args.source.dialect) c.args.source.last c.args.source.text.now c.args.reading.now.filled.spot was.room next.new.room was.rows was.parts
          next.new.parts was.reading.filled next.new.reading.filled was.at next.new.row next.result here next.ensures.grows next.ensures.kept
          (omega (arith, was.invariant.parts, next.ensures.size)) was.invariant.parts was.invariant.reads next.ensures.reads
          (sym c.has_row.ensures ∙ c.if-not-has_row.false);
    }

pub returns-clause-reads : goal.returns-clause-reads
returns-clause-reads c =
    let was = c.loop-at in
    let past : length was.rows ≤ was.at = omega (arith, c.loop-at-test.false, was.auto.rows) in
    all_filled (dialect_of c.args.source.dialect) c.args.source.last c.args.source.text.now c.args.reading.now.filled.spot was.rows was.parts was.room was.reading.filled was.at past
    was.invariant.reads
