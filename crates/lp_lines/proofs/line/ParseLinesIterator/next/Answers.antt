use Rattle.std.proofs.Common.{arith}
use Rattle.lp_lines.proofs.lemmas.line.AnsweredLines.{gave_item}
use Rattle.lp_lines.proofs.line.ParseLinesIterator.next.Goals as goal

pub returns-clause-steps : goal.returns-clause-steps
returns-clause-steps c =
    let given = rw c.self.view_is at c.in-Some.ensures.gives in
    (given.0, λ others left. let gave = given.1 others left in grind (arith, gave_item))
