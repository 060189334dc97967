use Rattle.std.proofs.Common.{arith}
use Rattle.std.proofs.lemmas.Grind.{common_steps}
use Rattle.lp_events.proofs.stops.after_next.Goals as goal

pub returns-in_err-ok-in-Tag-clause-left : goal.returns-in_err-ok-in-Tag-clause-left
returns-in_err-ok-in-Tag-clause-left c = rw c.in-Tag.is (grind (arith, common_steps))

pub returns-in_err-branch-in-Tag-clause-left : goal.returns-in_err-branch-in-Tag-clause-left
returns-in_err-branch-in-Tag-clause-left c = rw c.in-Tag.is (grind (arith, common_steps))

pub returns-in_err-ok-in-Field-clause-left : goal.returns-in_err-ok-in-Field-clause-left
returns-in_err-ok-in-Field-clause-left c = rw c.in-Field.is (grind (arith, common_steps))

pub returns-in_err-branch-in-Field-clause-left : goal.returns-in_err-branch-in-Field-clause-left
returns-in_err-branch-in-Field-clause-left c = rw c.in-Field.is (grind (arith, common_steps))

pub returns-in_ok-branch-in-Tag-clause-left : goal.returns-in_ok-branch-in-Tag-clause-left
returns-in_ok-branch-in-Tag-clause-left c = rw c.in-Tag.is (grind (arith, common_steps))

pub returns-in_ok-branch-in-Field-clause-left : goal.returns-in_ok-branch-in-Field-clause-left
returns-in_ok-branch-in-Field-clause-left c = rw c.in-Field.is (grind (arith, common_steps))
