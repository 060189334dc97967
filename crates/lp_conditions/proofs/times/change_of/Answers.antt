use Rattle.std.proofs.Common.{arith, to_z-of_z}
use Rattle.lp_conditions.proofs.TimeLemmas.{too_many_nanos}
use Rattle.lp_conditions.proofs.times.change_of.Goals as goal

pub returns-in-None : goal.returns-in-None
returns-in-None c = grind (arith, too_many_nanos, to_z-of_z)
