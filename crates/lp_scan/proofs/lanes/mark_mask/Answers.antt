-- A lane is set exactly if its byte is a mark of the kind, at each of the 256 bytes.
use Rattle.std.proofs.{Common.refl, Common.arith, Common.inl, Common.inr, lemmas.Grind.common_steps}
use Rattle.lp_scan.proofs.lemmas.lanes.LaneLemmas.{either, looked, mask_as, one, same_tests}
use Rattle.lp_scan.proofs.lanes.mark_mask.Goals as goal
use Rattle.lp_format.specs.format.{comma}

pub returns-in-Measurement : goal.returns-in-Measurement
returns-in-Measurement c = grind (arith, common_steps, same_tests)

pub returns-in-TagKey : goal.returns-in-TagKey
returns-in-TagKey c =
    let is = mask_as (either (looked _) (one comma)) c.args.bytes.now c.args.at 16 c.requires (omega arith) in
    rw c.by_low_half.ensures (elim c.in-TagKey.is [
      | inl e ↦ rw e (is _ (λ k. (c.type_inv.bytes k).fits) refl)
      | inr (inl e) ↦ rw e (is _ (λ k. (c.type_inv.bytes k).fits) refl)
      | inr (inr e) ↦ rw e (is _ (λ k. (c.type_inv.bytes k).fits) refl)
    ])
