use Rattle.std.proofs.Common.{◌≡◌, ◌+◌, ◌-◌, ◌<◌, ◌≤◌, ◌^◌, ℕ, get_or, min}
use Rattle.lp_conditions.proofs.kinds.KindCounts.add.Given as goal

abbrev pub invariant-loop-at : goal.invariant-loop-at
invariant-loop-at l = record {
  added : (k : ℕ) → k < l.at → get_or l.self.counts k 0 ≡ min (2 ^ 64 - 1) (get_or l.fn.self.counts k 0 + get_or l.more.counts k 0);
  left : (k : ℕ) → l.at ≤ k → get_or l.self.counts k 0 ≡ get_or l.fn.self.counts k 0;
}
