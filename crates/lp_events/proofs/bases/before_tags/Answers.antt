use Rattle.std.proofs.Common.{arith, refl}
use Rattle.std.proofs.lemmas.Grind.{common_steps}
use Rattle.lp_events.specs.code.OwnBases.{is_own_base}
use Rattle.lp_events.proofs.bases.before_tags.Goals as goal

pub returns : goal.returns
unfolding is_own_base
returns c = record { is_base = grind (arith, common_steps); last = λ base. refl }
