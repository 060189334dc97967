use Rattle.std.proofs.Common.{◌-◌, ◌≡◌, ◌≤◌, max, vec_len}
use Rattle.lp_inputs.proofs.whole_lines.lines_end.Given as goal

-- the block has its length, and no more is looked at than the bytes of the file
abbrev pub invariant-loop-end : goal.invariant-loop-end
invariant-loop-end g l = record {
  block : vec_len l.block ≡ 65536;
  within : l.end ≤ max l.from l.to;
}

abbrev pub decreases-loop-end : goal.decreases-loop-end
decreases-loop-end g l = l.end - l.from
