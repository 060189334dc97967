use Rattle.std.proofs.{Common.◌<◌, Common.arith, lemmas.Grind.common_steps}
use Rattle.lp_influx.proofs.Literals.{unsigned_over}
use Rattle.lp_influx.proofs.values.unsigned.Goals as goal

pub returns-in-Err-clause-value : goal.returns-in-Err-clause-value
returns-in-Err-clause-value c =
    let some : 0 < c.digits_len.result = grind (arith, common_steps) in
    unsigned_over c.args.text.now c.split_at.result.0.now c.split_at.result.1.now c.in_ok-rest.rest.now c.digits_len.result c.digits_len.ensures.value
    c.split_at.ensures.front c.split_at.ensures.back c.in_ok-rest.ensures.value some c.in-Err.ensures
