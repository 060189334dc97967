use Rattle.std.proofs.Common.{ap, ◌∙◌, arith}
use lib.Lanes.{mask_l}
use Rattle.lp_scan.proofs.lemmas.lanes.LaneLemmas.{any_of_five, mask_in, one_of_five, same_tests}
use Rattle.lp_scan.proofs.lanes.stops_in.Goals as goal

pub returns : goal.returns
returns c =
    mask_in (any_of_five c.stops.result) _ _ 64 c.requires (omega arith)
    ∙ ap mask_l (same_tests _ _ (λ b. one_of_five c.stops.result c.stops.ensures.len b ∙ c.stops.ensures.bytes b) _)
