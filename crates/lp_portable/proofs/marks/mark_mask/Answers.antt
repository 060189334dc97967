-- A lane is set exactly if its byte is a mark, at each of the 256 bytes.
use Rattle.std.proofs.Common.{refl, arith}
use Rattle.lp_scan.proofs.lemmas.lanes.LaneLemmas.{either, looked, mask_as}
use Rattle.lp_portable.proofs.marks.mark_mask.Goals as goal

pub returns : goal.returns
returns c =
    rw (c.by_low_half.ensures, c.by_low_half-2.ensures)
    (mask_as (either (looked _) (looked _)) _ _ 16 c.requires (omega arith) _ (λ k. (c.type_inv.bytes k).fits) refl)
