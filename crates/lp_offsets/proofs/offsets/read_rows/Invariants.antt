use Rattle.std.proofs.Common.{◌≤◌, length, take}
use Rattle.lp_offsets.specs.Numbers.{dialect_of}
use Rattle.lp_offsets.specs.OffsetBlocks.{IsSeenOf, OffsetRows}
use Rattle.lp_offsets.proofs.offsets.read_rows.Given as goal

-- the rows so far are the items so far, with the parts so far
abbrev pub invariant-loop-at : goal.invariant-loop-at
invariant-loop-at l = record {
  within : l.reading.filled.spot.at ≤ length l.source.text.now;
  parts : l.reading.filled.parts ≤ length l.parts;
  room : l.reading.filled.room ≤ length l.room;
  seen : IsSeenOf (dialect_of l.source.dialect) l.source.text.now l.reading.seen;
  reads : OffsetRows (dialect_of l.source.dialect) l.source.last l.source.text.now l.fn.reading.filled.spot l.room l.reading.filled.room
      (take l.at l.rows) (take l.reading.filled.parts l.parts) l.reading.filled.spot;
}
