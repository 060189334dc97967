use lib.LanesLaws.{pairs_below}
use Rattle.std.specs.Simd.Lanes.{products}
use Rattle.lp_values.proofs.lemmas.digits.DigitLemmas.{are_groups, firsts, others}
use Rattle.lp_values.proofs.digits.lanes_number.Goals as goal

pub dot4-firsts : goal.dot4-firsts
dot4-firsts c =
    (pairs_below (products c.args.digits (firsts 4)) (are_groups 4 c.args.digits c.requires.whole c.requires.digits).firsts_fit, tt)

pub dot4-others : goal.dot4-others
dot4-others c =
    (pairs_below (products c.args.digits (others 4)) (are_groups 4 c.args.digits c.requires.whole c.requires.digits).others_fit, tt)
