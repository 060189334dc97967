use Rattle.std.proofs.Common.{◌≡◌, ◌≤◌, ◌-◌, drop, length, nat_cmp}
use Rattle.std.specs.Cmp.Lexicographic.{slice_cmp}
use Rattle.lp_portable.proofs.keys.rises.Given as goal

abbrev pub invariant-loop-at : goal.invariant-loop-at
invariant-loop-at l = record {
  within : l.at ≤ length l.last;
  less : l.at ≤ length l.key;
  same : slice_cmp nat_cmp (drop l.at l.last) (drop l.at l.key) ≡ slice_cmp nat_cmp l.last l.key;
}

abbrev pub decreases-loop-at : goal.decreases-loop-at
decreases-loop-at l = length l.last - l.at
