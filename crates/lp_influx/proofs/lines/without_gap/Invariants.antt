use Rattle.std.proofs.Common.{◌≡◌, ◌≤◌, length}
use Rattle.lp_influx.specs.format.InfluxLines.{without_gap}
use Rattle.lp_influx.proofs.lines.without_gap.Given as goal

abbrev pub invariant-loop-left : goal.invariant-loop-left
invariant-loop-left l = record {
  same : without_gap l.left ≡ without_gap l.text;
  less : length l.left ≤ length l.text;
}

abbrev pub decreases-loop-left : goal.decreases-loop-left
decreases-loop-left l = length l.left
