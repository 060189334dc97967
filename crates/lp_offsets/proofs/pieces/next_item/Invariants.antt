use Rattle.std.proofs.Common.{◌-◌, ◌≤◌, length}
use Rattle.lp_offsets.specs.Numbers.{dialect_of}
use Rattle.lp_offsets.specs.OffsetBlocks.{IsSeenOf, PassesBlanks}
use Rattle.lp_offsets.proofs.pieces.next_item.Given as goal

-- blank pieces alone were passed so far
abbrev pub invariant-loop-piece : goal.invariant-loop-piece
invariant-loop-piece l = record {
  within : l.spot.at ≤ length l.source.text.now;
  seen : IsSeenOf (dialect_of l.source.dialect) l.source.text.now l.seen;
  passes : PassesBlanks (dialect_of l.source.dialect) l.source.last l.source.text.now l.fn.spot l.spot;
}

abbrev pub decreases-loop-piece : goal.decreases-loop-piece
decreases-loop-piece l = length l.source.text.now - l.spot.at
