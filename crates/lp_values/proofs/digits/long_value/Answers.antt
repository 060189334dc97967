use Rattle.std.proofs.Common.{◌∙◌, ◌-◌, length, ap, arith}
use Rattle.std.proofs.lemmas.Grind.{common_steps}
use Rattle.std.specs.Str.Parse.{digits_value}
use Rattle.lp_values.proofs.lemmas.digits.DigitLemmas.{few_fit, by_last, whole_lanes}
use Rattle.lp_values.proofs.digits.long_value.Goals as goal

pub lanes_number-requires-clause-digits : goal.lanes_number-requires-clause-digits
lanes_number-requires-clause-digits c =
    let lanes = c.digit_lanes.ensures in
    (whole_lanes c.args.digits.now _ c.digit_lanes.result c.split_at.ensures.back c.requires.least lanes.whole c.requires.digits lanes.value).0

pub returns : goal.returns
returns c =
    let ds = c.args.digits.now in
    let lanes = c.digit_lanes.ensures in
    let last = whole_lanes ds _ c.digit_lanes.result c.split_at.ensures.back c.requires.least lanes.whole c.requires.digits lanes.value in
    let first = c.value_after.ensures ∙ ap (digits_value 10) c.split_at.ensures.front in
    omega (arith, first, c.lanes_number.ensures ∙ last.1, by_last (length ds - 16) ds (omega (arith, c.requires.least)))

pub overflow_add-result : goal.overflow_add-result
overflow_add-result c = grind (arith, common_steps, returns, few_fit)
