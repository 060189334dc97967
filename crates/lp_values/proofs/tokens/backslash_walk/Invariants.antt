use Rattle.std.proofs.Common.{◌-◌, ◌≤◌, length, false}
use Rattle.lp_scan.specs.code.{is_plain, AllPassBetween}
use Rattle.lp_values.proofs.tokens.backslash_walk.Given as goal

abbrev pub invariant-loop-end : goal.invariant-loop-end
invariant-loop-end l = (l.at ≤ l.end) × (l.end ≤ length l.bytes) × AllPassBetween (is_plain (λ b. false)) l.bytes l.at l.end

abbrev pub decreases-loop-end : goal.decreases-loop-end
decreases-loop-end l = length l.bytes - l.end
