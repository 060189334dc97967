use Rattle.std.proofs.{Common.◌<◌, Common.arith, lemmas.Grind.common_steps}
use Rattle.lp_influx.proofs.LineParts.{stamp_over}
use Rattle.lp_influx.proofs.lines.stamp_at.Goals as goal

pub returns-in-Err : goal.returns-in-Err
returns-in-Err c =
    let some : 0 < c.integer_len.result = grind (arith, common_steps) in
    stamp_over c.args.text.now c.split_at.result.0.now c.integer_len.result c.integer_len.ensures.value c.split_at.ensures.front some c.in-Err.ensures
