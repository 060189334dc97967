use Rattle.std.proofs.Common.{◌-◌, ◌≤◌, length, not}
use Rattle.lp_scan.specs.code.{is_mark, AllPassBetween}
use Rattle.lp_written.proofs.tokens.unmarked_tail.Given as goal

abbrev pub invariant-loop-end : goal.invariant-loop-end
invariant-loop-end l = (l.at ≤ l.end) × (l.end ≤ length l.bytes) × AllPassBetween (λ b. not (is_mark l.kind b)) l.bytes l.at l.end

abbrev pub decreases-loop-end : goal.decreases-loop-end
decreases-loop-end l = length l.bytes - l.end
