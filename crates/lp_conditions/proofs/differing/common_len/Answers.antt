use Rattle.std.proofs.Common.{drop, arith}
use Rattle.lp_conditions.proofs.DifferingLemmas.{common_ends}
use Rattle.lp_conditions.proofs.differing.common_len.Goals as goal

pub returns-else-at-written : goal.returns-else-at-written
returns-else-at-written c =
    let none = common_ends (drop c.loop-at.at c.args.line.now) c.args.written.now c.loop-at.at c.if-at-written.false in
    grind (arith, none)
