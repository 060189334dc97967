use Rattle.std.proofs.Common.{◌<◌, length, arith, eqb-true}
use Rattle.std.proofs.lemmas.{Grind.common_steps, Bool.Decides.nat_tests}
use Rattle.lp_events.proofs.lemmas.lines.LineSteps.{Skipped-more, items_less}
use Rattle.lp_events.proofs.lines.next_line.Goals as goal

pub returns-then-not-is_empty-clause-fewer : goal.returns-then-not-is_empty-clause-fewer
returns-then-not-is_empty-clause-fewer c =
    let some : 0 < length c.trimmed-line.result.now = grind (arith, nat_tests) in
    items_less c.args.lines.now c.next.new.self c.in-Some.piece.now (rw (← c.trimmed-line.ensures) some)
    (λ others h. c.loop-piece.invariant.skipped _ (c.in-Some.ensures.steps.1 others h))

pub loop-piece-preserved : goal.loop-piece-preserved
loop-piece-preserved c = grind (arith, common_steps, eqb-true, Skipped-more)
