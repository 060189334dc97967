use Rattle.lp_events.specs.code.EventsLeft.{HasEventsLeft}
use Rattle.lp_events.proofs.lemmas.events.LineEvents.{told_one, told_then}
use Rattle.lp_events.proofs.pull.ParseEvents.tell.Goals as goal

pub loop-event-preserved : goal.loop-event-preserved
loop-event-preserved g c =
    let was = HasEventsLeft c.loop-event.event-iterator in
    let now = HasEventsLeft c.next.new.self in
    told_then g.S.EventSink.takes _ c.loop-event.sink _ (HasEventsLeft c.args.self) was now c.loop-event.invariant
    (told_one g.S.EventSink.takes c.loop-event.sink c.loop-event.sink _ _ was now c.tell.ensures c.in-Some.ensures.steps)
