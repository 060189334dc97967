use Rattle.std.proofs.Common.{◌≡◌, ◌≤◌, false, length, take, IsUtf8}
use Rattle.lp_c.specs.Blocks.{Rows}
use Rattle.lp_c.specs.Crossing.{left_of}
use Rattle.lp_c.proofs.blocks.lp_lines_block.Given as goal

-- the rows so far are the items so far, with the parts so far and what these left of the room
abbrev pub invariant-loop-at : goal.invariant-loop-at
invariant-loop-at l = record {
  text : IsUtf8 l.lines.rest.now;
  left : l.lines.ended ≡ false → l.pieces ≡ left_of l.lines;
  fits : l.used ≤ length l.parts;
  reads : ∥ Rows l.initial.lines (length l.initial.room.bytes.now) (take l.at l.rows) (take l.used l.parts)
      (length l.room.bytes.now) l.lines ∥₁;
}
