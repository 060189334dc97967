use Rattle.std.proofs.Common.{◌-◌, ◌≤◌, length, not}
use Rattle.lp_split.specs.code.{is_mark, rules_of}
use Rattle.lp_scan.specs.code.Lanes.{AllPassBetween}
use Rattle.lp_split.proofs.split.first_mark.Given as goal

abbrev pub invariant-loop-at : goal.invariant-loop-at
invariant-loop-at l = (l.at ≤ length l.text) × AllPassBetween (λ b. not (is_mark (rules_of l.dialect) b)) l.text 0 l.at

abbrev pub decreases-loop-at : goal.decreases-loop-at
decreases-loop-at l = length l.text - l.at
