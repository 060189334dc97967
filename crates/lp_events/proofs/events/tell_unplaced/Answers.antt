use Rattle.lp_events.proofs.lemmas.events.PlacedParts.{takes_unplaced}
use Rattle.lp_events.proofs.events.tell_unplaced.Goals as goal

pub returns-clause-sink : goal.returns-clause-sink
returns-clause-sink g c =
    let was = c.read_placed_events-stop.ensures.told in (takes_unplaced g.S.EventSink.takes _ _ was.events was.told).1

pub returns-clause-told : goal.returns-clause-told
returns-clause-told g c =
    let was = c.read_placed_events-stop.ensures.told in
    record { events = was.events; told = (takes_unplaced g.S.EventSink.takes _ _ was.events was.told).0; are = was.are }
