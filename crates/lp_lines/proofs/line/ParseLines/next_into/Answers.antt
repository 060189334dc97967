use Rattle.std.proofs.Common.{rules, arith}
use Rattle.lp_lines.proofs.lemmas.line.AnsweredLines.{filled_answers, gave_item, item_is_no_refusal, more_room}
use Rattle.lp_lines.proofs.line.ParseLines.next_into.Goals as goal

pub returns-clause-gives : goal.returns-clause-gives
returns-clause-gives c =
    let given = rw c.self.view_is at c.in_ok-text.ensures.gives in (
      given.0,
      λ others left. let gave = given.1 others left in
          grind (arith, gave_item, filled_answers, item_is_no_refusal, more_room),
    )

pub returns-clause-memory : goal.returns-clause-memory
returns-clause-memory c =
    let given = rw c.self.view_is at c.in_ok-text.ensures.gives in
    λ others left. record { line = c.in_ok-text.text.now; gave = given.1 others left; light = search rules }
