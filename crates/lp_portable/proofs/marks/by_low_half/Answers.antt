use Rattle.std.proofs.Common.{ℕ, ◌<◌, map, get_or, replicate, refl, ap, ◌∙◌, arith, w8}
use lib.Bits.{bit_and, and_le_r}
use lib.Lanes.{zip2}
use Rattle.std.proofs.lemmas.Simd.{SwzOk-from_below, Each1-zip2, Each2-splat, Each1-all, length-zip2, map-map, zip2_splat}
use Rattle.lp_scan.proofs.lemmas.lanes.LaneLemmas.{looked_up}
use Rattle.lp_portable.proofs.marks.by_low_half.Goals as goal

pub swizzle : goal.swizzle
swizzle c =
    let v = c.args.v in
    let small = Each1-all (λ a. bit_and a 15 < 16) (λ a. omega (arith, and_le_r a 15)) v in
    SwzOk-from_below w8 16 1 16 0 (zip2 bit_and v (replicate 16 15)) refl (omega (arith, length-zip2 bit_and v (replicate 16 15) c.requires))
    (Each1-zip2 bit_and (λ j. j < 16) v (replicate 16 15) (Each2-splat (λ a b. bit_and a b < 16) v 16 15 small))

pub returns : goal.returns
returns c =
    let v = c.args.v in
    let look : ℕ → ℕ = λ j. get_or c.args.table j 0 in
    looked_up c.args.table (omega arith) _ 0 (omega (arith, length-zip2 bit_and v (replicate 16 15) c.requires, c.requires))
    ∙ ap (map look) (zip2_splat bit_and v 16 15 c.requires) ∙ map-map look (λ b. bit_and b 15) v
