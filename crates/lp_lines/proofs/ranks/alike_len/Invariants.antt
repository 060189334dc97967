use Rattle.std.proofs.Common.{◌≡◌, ◌≤◌, ◌-◌, length, take}
use Rattle.lp_lines.proofs.ranks.alike_len.Given as goal

-- the first `at` bytes of both texts are equal
abbrev pub invariant-loop-at : goal.invariant-loop-at
invariant-loop-at l = (take l.at l.one ≡ take l.at l.other) × (l.at ≤ length l.one) × (l.at ≤ length l.other)

abbrev pub decreases-loop-at : goal.decreases-loop-at
decreases-loop-at l = length l.one - l.at
