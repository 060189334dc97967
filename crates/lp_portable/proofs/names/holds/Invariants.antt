use Rattle.std.proofs.Common.{◌≡◌, length}
use Rattle.lp_portable.specs.format.Spellings.{holds}
use Rattle.lp_portable.proofs.names.holds.Given as goal

abbrev pub invariant-loop-left : goal.invariant-loop-left
invariant-loop-left l = holds l.escaped l.bare l.spelling ≡ holds l.escaped l.bare l.left

abbrev pub decreases-loop-left : goal.decreases-loop-left
decreases-loop-left l = length l.left
