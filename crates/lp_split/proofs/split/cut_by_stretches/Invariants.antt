use Rattle.std.proofs.Common.{◌+◌, ◌-◌, ◌≤◌, length, take}
use Rattle.lp_split.specs.code.{Plain, IsAhead, EndsIn}
use Rattle.lp_split.proofs.split.cut_by_stretches.Given as goal

-- `at` is a bare place of a plain stretch
abbrev pub invariant-loop-ahead : goal.invariant-loop-ahead
invariant-loop-ahead l = record {
  plain : EndsIn Plain l.equals l.commas (take l.at l.text);
  seen : IsAhead l.text l.at l.ahead;
  counts : (l.equals ≤ l.at) × (l.commas ≤ l.at);
}

-- each round moves `at`, or loads bytes where none were seen
abbrev pub decreases-loop-ahead : goal.decreases-loop-ahead
decreases-loop-ahead l = (length l.initial.text - l.at) + (length l.initial.text - l.at) + (1 - (l.ahead.end - l.at))
