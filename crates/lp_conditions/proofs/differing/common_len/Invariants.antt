use Rattle.std.proofs.Common.{◌≡◌, ◌+◌, ◌-◌, ◌≤◌, length, drop}
use Rattle.lp_conditions.specs.Differing.{common_len}
use Rattle.lp_conditions.proofs.differing.common_len.Given as goal

-- the bytes so far are the same in both
abbrev pub invariant-loop-at : goal.invariant-loop-at
invariant-loop-at l =
    (l.at ≤ length l.line) × (common_len l.line l.written ≡ l.at + common_len (drop l.at l.line) (drop l.at l.written))

abbrev pub decreases-loop-at : goal.decreases-loop-at
decreases-loop-at l = length l.initial.line - l.at
