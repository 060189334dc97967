use Rattle.std.proofs.Common.{refl, arith}
use Rattle.lp_format.specs.format.Bytes.{backslash}
use Rattle.lp_scan.proofs.lemmas.lanes.LaneLemmas.{mask_as, one}
use Rattle.lp_scan.proofs.lanes.backslashes.Goals as goal

pub returns : goal.returns
returns c = mask_as (one backslash) _ _ 16 c.requires (omega arith) _ (λ k. (c.type_inv.bytes k).fits) refl
