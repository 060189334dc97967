use Rattle.std.proofs.Common.{◌-◌, ◌≤◌, length}
use Rattle.lp_scan.specs.code.{is_plain, stops_of, AllPassBetween}
use Rattle.lp_values.proofs.tokens.plain_end.Given as goal

abbrev pub invariant-loop-end : goal.invariant-loop-end
invariant-loop-end l = (l.at ≤ l.end) × (l.end ≤ length l.bytes) × AllPassBetween (is_plain (stops_of l.kind)) l.bytes l.at l.end

abbrev pub decreases-loop-end : goal.decreases-loop-end
decreases-loop-end l = length l.bytes - l.end
