use Rattle.std.proofs.Common.{◌≡◌, ◌≤◌, ◌-◌, length, take}
use Rattle.lp_portable.specs.code.Marks.{held, is_mark}
use Rattle.lp_portable.proofs.marks.marks_in.Given as goal

-- the marks so far are counted
abbrev pub invariant-loop-at : goal.invariant-loop-at
invariant-loop-at l = (l.at ≤ length l.bytes) × (l.count ≤ l.at) × (l.count ≡ held is_mark (take l.at l.bytes))

abbrev pub decreases-loop-at : goal.decreases-loop-at
decreases-loop-at l = length l.bytes - l.at
