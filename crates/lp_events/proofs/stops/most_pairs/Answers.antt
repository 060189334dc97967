use Rattle.lp_events.specs.code.Stops.{next_pair}
use Rattle.lp_events.proofs.lemmas.stops.MostParts.{most_end}
use Rattle.lp_events.proofs.stops.most_pairs.Goals as goal

pub returns-clause-many : goal.returns-clause-many
returns-clause-many c = most_end (next_pair c.args.kind) c.args.text.now c.loop-after.rest.now c.loop-after.count c.loop-after.invariant.1
    (rw c.in_default.is at c.after_next.ensures.left)
