use Rattle.std.proofs.Common.{◌≡◌, Some, arith}
use Rattle.std.specs.HashMap.{get_by_text}
use Rattle.std.proofs.lemmas.Map.Text.{text_keys}
use Rattle.lp_series.proofs.KeptCounts.{at_err, set_same}
use Rattle.lp_series.proofs.tables.count_key.Goals as goal

-- the count of a known series was raised
pub returns-in-Some-clause-counts : goal.returns-in-Some-clause-counts
returns-in-Some-clause-counts c =
    let held = c.get_mut.follows.holds c.in_ok-points.field-0 in
    (c.in-Some.points.now, grind (arith, text_keys), λ q. grind (arith, text_keys), held.2)

-- a new series was put into the table
pub returns-clause-counts : goal.returns-clause-counts
returns-clause-counts c = (grind (arith, text_keys), λ q. grind (arith, text_keys), grind arith, grind (arith, text_keys))

-- if no `u64` holds a count, it stays
pub returns-in_err-points-clause-kept : goal.returns-in_err-points-clause-kept
returns-in_err-points-clause-kept c =
    let points = c.in-Some.points.now in
    let new = c.get_mut.follows.lender points in
    let had : get_by_text c.args.series.now c.args.key.now ≡ Some points = grind (arith, text_keys) in
    at_err c.from_residual.result (
      set_same c.args.series.now new c.args.key.now (Some points) had (λ q. grind (arith, text_keys)),
      (c.get_mut.follows.holds points).2,
    )
