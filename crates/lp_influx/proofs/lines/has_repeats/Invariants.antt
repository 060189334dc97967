use Rattle.std.proofs.Common.{◌≡◌, length}
use Rattle.lp_portable.specs.format.Portable.{has_repeats}
use Rattle.lp_influx.specs.code.Line.{keys_in}
use Rattle.lp_influx.proofs.lines.has_repeats.Given as goal

abbrev pub invariant-loop-left : goal.invariant-loop-left
invariant-loop-left l = has_repeats (keys_in l.tags) ≡ has_repeats (keys_in l.left)

abbrev pub decreases-loop-left : goal.decreases-loop-left
decreases-loop-left l = length l.left
