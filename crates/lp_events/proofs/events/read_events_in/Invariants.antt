use Rattle.std.proofs.Common.{◌≡◌}
use Rattle.lp_split.specs.code.{rules_of}
use Rattle.lp_events.specs.code.{Events.AreEventsOfText, EventsLeft.AreEventsLeft, LineSteps.most_items}
use Rattle.lp_events.proofs.lemmas.events.LineEvents.{ToldTo}
use Rattle.lp_events.proofs.events.read_events_in.Given as goal

abbrev pub invariant-loop-line : goal.invariant-loop-line
invariant-loop-line g l = record {
  dialect : l.lines.dialect ≡ rules_of l.dialect;
  told : ToldTo g.S.EventSink.takes l.fn.sink l.sink (AreEventsOfText (rules_of l.dialect) l.input) (AreEventsLeft l.lines);
}

abbrev pub decreases-loop-line : goal.decreases-loop-line
decreases-loop-line g l = most_items l.lines.text
