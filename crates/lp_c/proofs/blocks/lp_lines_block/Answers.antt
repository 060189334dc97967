use Rattle.std.proofs.Common.{rules, arith, sym, ap, length, ◌≡◌, ◌<◌, ◌≤◌, ◌∙◌, false, true}
use Rattle.lp_c.specs.Blocks.{none}
use Rattle.lp_c.specs.Crossing.{is_item}
use Rattle.lp_c.proofs.BlockLemmas.{all_filled, row_more, stops_at}
use Rattle.lp_c.proofs.blocks.lp_lines_block.Goals as goal

pub loop-at-init : goal.loop-at-init
loop-at-init c = record {
  text = search (rules);
  left = c.pieces_of-pieces.ensures;
  fits = search (rules);
  reads = ∣ none ∣₁;
}

pub returns-then-not-is_item-clause-reads : goal.returns-then-not-is_item-clause-reads
returns-then-not-is_item-clause-reads c =
    let next = c.read_row-answer in
    let here : c.loop-at.at < length c.loop-at.rows = omega (arith, c.loop-at-test.true, c.loop-at.auto.rows) in
    let item : is_item next.result.0 ≡ false = search (rules) in
    rw next.ensures.answer (stops_at c.args.lines.now (length c.args.room.now.bytes.now) c.loop-at.rows next.new.row
    c.loop-at.parts next.new.parts c.loop-at.at c.loop-at.used (length c.loop-at.room.bytes.now) (length next.new.room.bytes.now)
    c.loop-at.lines next.new.lines here next.ensures.kept (ap is_item (sym next.ensures.answer) ∙ item) c.loop-at.invariant.reads
    next.ensures.reads)

pub loop-at-preserved : goal.loop-at-preserved
loop-at-preserved c =
    let next = c.read_row-answer in
    let here : c.loop-at.at < length c.loop-at.rows = omega (arith, c.loop-at-test.true, c.loop-at.auto.rows) in
    let item : is_item next.result.0 ≡ true = search (rules) in
    record {
      text = next.ensures.text;
      left = next.ensures.left item;
      fits = next.ensures.fits;
      reads = row_more c.args.lines.now (length c.args.room.now.bytes.now) c.loop-at.rows next.new.row c.loop-at.parts next.new.parts
          c.loop-at.at c.loop-at.used next.result.1 (length c.loop-at.room.bytes.now) (length next.new.room.bytes.now)
          c.loop-at.lines next.new.lines here c.loop-at.invariant.fits next.ensures.size next.ensures.kept next.ensures.own
          next.ensures.fits next.ensures.at (ap is_item (sym next.ensures.answer) ∙ item) c.loop-at.invariant.reads next.ensures.reads;
    }

pub returns-clause-reads : goal.returns-clause-reads
returns-clause-reads c =
    let past : length c.loop-at.rows ≤ c.loop-at.at = omega (arith, c.loop-at-test.false, c.loop-at.auto.rows) in
    rw c.number.ensures (all_filled c.args.lines.now (length c.args.room.now.bytes.now) (length c.loop-at.room.bytes.now)
    c.loop-at.rows c.loop-at.parts c.loop-at.at c.loop-at.used c.loop-at.lines past c.loop-at.invariant.reads)
