use Rattle.std.proofs.Common.{◌≡◌, ◌++◌, length}
use Rattle.lp_portable.specs.format.Spellings.{without_each}
use Rattle.lp_influx.proofs.names.without_each.Given as goal

abbrev pub invariant-loop-left : goal.invariant-loop-left
invariant-loop-left l = l.text.items ++ without_each l.known l.left ≡ without_each l.known l.name

abbrev pub decreases-loop-left : goal.decreases-loop-left
decreases-loop-left l = length l.left
