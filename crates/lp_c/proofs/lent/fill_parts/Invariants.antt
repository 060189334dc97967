use Rattle.std.proofs.Common.{◌≡◌, ◌+◌, ◌++◌, drop, length, map, take}
use Rattle.std.specs.List.{sum_by}
use Rattle.lp_c.proofs.lent.fill_parts.Given as goal
use Rattle.lp_c.specs.Crossing.{field_shown, tag_shown}
use Rattle.lp_c.specs.Telling.{filled_parts, part_len}

-- the parts so far, and those that are left with their copies, show what all were to show; what the others wait for is in the room
abbrev pub invariant-loop-at : goal.invariant-loop-at
invariant-loop-at l = record {
  tags : map tag_shown (take l.at l.parts) ++ map tag_shown (filled_parts l.room.bytes.now (drop l.at l.parts))
      ≡ map tag_shown (filled_parts l.fn.room.bytes.now l.fn.parts);
  fields : map field_shown (take l.at l.parts) ++ map field_shown (filled_parts l.room.bytes.now (drop l.at l.parts))
      ≡ map field_shown (filled_parts l.fn.room.bytes.now l.fn.parts);
  left : length l.room.bytes.now + sum_by part_len l.fn.parts ≡ length l.fn.room.bytes.now + sum_by part_len (drop l.at l.parts);
}
