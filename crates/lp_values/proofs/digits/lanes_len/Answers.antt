use Rattle.std.proofs.Common.{ℕ, Bool, leb, cond, not, take, refl, ap, ◌∙◌, arith, length-take-le}
use Rattle.std.proofs.Math.Bool.{not-not}
use Rattle.std.specs.{Char.is_ascii_digit, List.prefix_len}
use Rattle.std.proofs.lemmas.Simd.{splat_is_map, zip2_of_maps, zip2_splat}
use Rattle.lp_scan.specs.code.{first_set}
use Rattle.lp_scan.proofs.lemmas.scan.MaskLemmas.{lowest, mask_by_lanes, mask_same}
use Rattle.lp_values.proofs.digits.lanes_len.Goals as goal

pub returns : goal.returns
returns c =
    let bytes = c.args.bytes.now in
    let v = take 16 bytes in
    let long = length-take-le 16 bytes c.requires in
    let lanes = zip2_of_maps (λ a b. cond (leb a b) 255 0) _ _ v (splat_is_map v 16 10 long) (zip2_splat {Y = ℕ} _ v 16 48 long) in
    let mask = mask_by_lanes _ bytes 0 16 c.requires (omega arith) _ (λ x. refl) _ lanes
    ∙ mask_same _ bytes 0 16 c.requires (omega arith) (λ b. not (is_ascii_digit b)) (λ k. (c.type_inv.bytes k).fits) refl in
    c.first_set.ensures ∙ ap (λ m. first_set m 16) mask ∙ lowest _ bytes 0 16 c.requires (omega arith)
    ∙ ap (λ (p : ℕ → Bool). prefix_len p v) (λ j b. not-not (is_ascii_digit b) j)
