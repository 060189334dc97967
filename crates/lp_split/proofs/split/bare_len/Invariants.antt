use Rattle.std.proofs.Common.{◌-◌, length}
use Rattle.lp_scan.specs.code.{IsBarePassed}
use Rattle.lp_split.specs.code.Stops.{is_stop}
use Rattle.lp_split.proofs.split.bare_len.Given as goal

-- no bare byte before `at` ends a stretch
abbrev pub invariant-loop-quiet : goal.invariant-loop-quiet
invariant-loop-quiet l = IsBarePassed (is_stop l.stops) l.text l.at

abbrev pub decreases-loop-quiet : goal.decreases-loop-quiet
decreases-loop-quiet l = length l.initial.text - l.at
