use Rattle.std.proofs.Common.{◌≡◌, take, false}
use Rattle.lp_portable.specs.{code.Walks.keys_in, format.Portable.has_repeats}
use Rattle.lp_portable.proofs.keys.has_few_repeats.Given as goal

abbrev pub invariant-loop-at : goal.invariant-loop-at
invariant-loop-at g l = has_repeats (keys_in (take l.at l.items)) ≡ false
