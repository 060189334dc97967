use Rattle.std.proofs.Common.{arith, ◌∙◌, sym, ap}
use Rattle.lp_format.specs.format.{digits_len, exponent_len}
use Rattle.lp_influx.proofs.Literals.{pointed_is}
use Rattle.lp_influx.proofs.numbers.pointed_len.Goals as goal

pub returns-clause-value : goal.returns-clause-value
returns-clause-value c =
    let whole = c.digits_len-whole.ensures.value ∙ ap digits_len c.split_at.ensures.back in
    let dot = rw c.split_at-2.ensures.back at c.in-Some.ensures.value in
    let power = c.exponent_len.ensures.value ∙ ap exponent_len c.split_at-3.ensures.back in
    sym (pointed_is c.args.text.now c.in-Some.after.now _ _ _ _ c.sign_len-sign.ensures.value whole dot c.digits_len-fraction.ensures.value (omega arith) power)
