use Rattle.std.proofs.{Common.◌<◌, Common.arith, lemmas.Grind.common_steps}
use Rattle.lp_influx.proofs.Literals.{integer_over}
use Rattle.lp_influx.proofs.values.integer.Goals as goal

pub returns-in-Err-clause-value : goal.returns-in-Err-clause-value
returns-in-Err-clause-value c =
    let some : 0 < c.integer_len.result = grind (arith, common_steps) in
    integer_over c.args.text.now c.split_at.result.0.now c.split_at.result.1.now c.in_ok-rest.rest.now c.integer_len.result c.integer_len.ensures.value
    c.split_at.ensures.front c.split_at.ensures.back c.in_ok-rest.ensures.value some c.in-Err.ensures
