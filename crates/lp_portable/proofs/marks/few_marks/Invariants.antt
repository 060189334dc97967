use Rattle.std.proofs.Common.{◌≡◌, ◌≤◌, take}
use Rattle.lp_portable.specs.code.Marks.{held, is_mark}
use Rattle.lp_portable.proofs.marks.few_marks.Given as goal

-- the marks so far are counted
abbrev pub invariant-loop-at : goal.invariant-loop-at
invariant-loop-at l = (l.count ≤ l.at) × (l.count ≡ held is_mark (take l.at l.bytes))
