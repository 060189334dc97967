-- The events that calls of `next` on a `ParseEvents` give, one after another.
use Rattle.std.specs.{Prelude.List, Prelude.◌++◌, Prelude.map, Iterator.Drains, Iterator.Yields}
use Rattle.lp_events.specs.code.{Events.Event, EventsLeft.GivesEvent, EventsLeft.HasEventsLeft, EventsLeft.told}
use Rattle.lp_events.specs.declared.pull.Event as given
use Rattle.lp_events.specs.declared.pull.ParseEvents.{ParseEvents}

-- After any number of calls of `next`, the events that came, followed by the events that are left, are the events that were left at the
-- start.
abbrev pub EventsSoFar : Type 0
EventsSoFar = (start reader : ParseEvents) (came : List given.Event) (others : List Event)
    → Yields GivesEvent start came reader → HasEventsLeft reader others → HasEventsLeft start (map told came ++ others)

-- The events that come before the first `None` are all events that were left at the start.
abbrev pub AllEventsCome : Type 0
AllEventsCome = (start : ParseEvents) (came : List given.Event) → Drains GivesEvent start came → HasEventsLeft start (map told came)
