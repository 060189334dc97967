-- A lane is set exactly if its byte ends a token of the kind or is a backslash, at each of the 256 bytes.
use Rattle.std.proofs.Common.{◌≡◌, refl, arith, inl, inr}
use Rattle.lp_format.specs.format.{backslash, comma, newline, quote, space, tab}
use Rattle.lp_scan.specs.code.{stops_of, TagKey}
use Rattle.lp_scan.proofs.lemmas.lanes.LaneLemmas.{either, looked, mask_as, one}
use Rattle.lp_scan.proofs.lanes.end_mask.Goals as goal

pub returns-in-Measurement : goal.returns-in-Measurement
returns-in-Measurement c =
    rw c.in-Measurement.is (mask_as
    (either (either (either (either (one space) (one tab)) (one newline)) (one backslash)) (either (one comma) (one 0)))
    _ _ 16 c.requires (omega arith) _ (λ k. (c.type_inv.bytes k).fits) refl)

pub returns-in-TagKey : goal.returns-in-TagKey
returns-in-TagKey c =
    let same : stops_of c.args.kind ≡ stops_of TagKey = elim c.in-TagKey.is [ inl e ↦ rw e refl | inr e ↦ rw e refl ] in
    rw (same, c.by_low_half.ensures) (mask_as (looked _) _ _ 16 c.requires (omega arith) _ (λ k. (c.type_inv.bytes k).fits) refl)

pub returns-in-TagValue : goal.returns-in-TagValue
returns-in-TagValue c =
    rw (c.in-TagValue.is, c.by_low_half-in-TagValue.ensures)
    (mask_as (either (looked _) (one backslash)) _ _ 16 c.requires (omega arith) _ (λ k. (c.type_inv.bytes k).fits) refl)

pub returns-in-String : goal.returns-in-String
returns-in-String c =
    rw c.in-String.is (mask_as (either (one backslash) (one quote)) _ _ 16 c.requires (omega arith) _ (λ k. (c.type_inv.bytes k).fits) refl)
