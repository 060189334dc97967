use Rattle.std.proofs.Common.{refl}
use Rattle.lp_events.proofs.pull.ParseEventsIterator.next.Goals as goal

pub returns-in-Err-clause-steps : goal.returns-in-Err-clause-steps
returns-in-Err-clause-steps c = λ others later. (rw c.in-Err.is at c.in_ok-event.ensures.steps) c.step.new.self.lines others later refl
