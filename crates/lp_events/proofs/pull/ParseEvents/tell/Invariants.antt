use Rattle.lp_events.{specs.code.EventsLeft.HasEventsLeft, proofs.lemmas.events.LineEvents.ToldTo}
use Rattle.lp_events.proofs.pull.ParseEvents.tell.Given as goal

abbrev pub invariant-loop-event : goal.invariant-loop-event
invariant-loop-event g l = ToldTo g.S.EventSink.takes l.fn.sink l.sink (HasEventsLeft l.fn.self) (HasEventsLeft l.event-iterator)
