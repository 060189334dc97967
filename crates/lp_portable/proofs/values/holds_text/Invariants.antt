use Rattle.std.proofs.Common.{◌≡◌, length}
use Rattle.lp_portable.specs.format.Portable.{holds_text}
use Rattle.lp_portable.proofs.values.holds_text.Given as goal

abbrev pub invariant-loop-left : goal.invariant-loop-left
invariant-loop-left l = holds_text l.wanted l.text ≡ holds_text l.wanted l.left

abbrev pub decreases-loop-left : goal.decreases-loop-left
decreases-loop-left l = length l.left
