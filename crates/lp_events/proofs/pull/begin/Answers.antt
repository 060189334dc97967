use Rattle.std.proofs.Common.{[], refl}
use Rattle.lp_events.proofs.lemmas.pull.EventSteps.{completes_more}
use Rattle.lp_events.proofs.pull.begin.Goals as goal

pub returns-clause-steps : goal.returns-clause-steps
returns-clause-steps c = λ left others later. completes_more
    (later _ [] (record { start = _; name_is = rw c.in-Some.is at c.in_ok-name.ensures.value; tags_are = refl; first_is = refl }))
