use Rattle.lp_events.proofs.lemmas.events.PlacedParts.{field_placed}
use Rattle.lp_events.proofs.events.placed_field.Goals as goal

pub returns-clause-places : goal.returns-clause-places
returns-clause-places c =
    field_placed c.args.text.now c.in-Some.after_key.now c.in-Some-strip_byte.rest.now c.in-Some-2.rest.now _
    (rw c.in-Some.is at c.in_ok-key.ensures.value) c.in-Some-strip_byte.ensures.value (rw c.in-Some-2.is at c.in_ok-value.ensures.value)
