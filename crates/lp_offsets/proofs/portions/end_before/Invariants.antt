use Rattle.std.proofs.Common.{◌≤◌}
use Rattle.lp_offsets.proofs.portions.end_before.Given as goal

abbrev pub invariant-loop-end : goal.invariant-loop-end
invariant-loop-end l = (l.least ≤ l.end) × (l.end ≤ l.most)

abbrev pub decreases-loop-end : goal.decreases-loop-end
decreases-loop-end l = l.end
