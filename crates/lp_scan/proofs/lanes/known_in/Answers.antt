use Rattle.std.proofs.Common.{ap, ◌∙◌, arith}
use lib.Lanes.{mask_l}
use Rattle.lp_scan.proofs.lemmas.lanes.LaneLemmas.{any_of_four, mask_in, one_of_four, same_tests}
use Rattle.lp_scan.proofs.lanes.known_in.Goals as goal

pub returns : goal.returns
returns c =
    mask_in (any_of_four c.known.result) _ _ 64 c.requires (omega arith)
    ∙ ap mask_l (same_tests _ _ (λ b. one_of_four c.known.result c.known.ensures.len b ∙ c.known.ensures.bytes b) _)
