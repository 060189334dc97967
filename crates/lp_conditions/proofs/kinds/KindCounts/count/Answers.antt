use Rattle.std.proofs.Common.{arith}
use Rattle.std.proofs.lemmas.Grind.{common_steps}
use Rattle.lp_conditions.proofs.CountLemmas.{counted}
use Rattle.lp_conditions.proofs.kinds.KindCounts.count.Goals as goal

pub returns : goal.returns
returns c =
    counted c.args.self.now c.args.kind c.place-place.result _ c.place-place.ensures.value (omega arith) (grind (arith, common_steps))
