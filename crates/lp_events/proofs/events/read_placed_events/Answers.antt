use Rattle.std.proofs.Common.{refl}
use Rattle.lp_events.{specs.code.Events.failed, proofs.lemmas.events.LineEvents.takes_more}
use Rattle.lp_values.specs.code.SpelledParts.{spelled_fault}
use Rattle.lp_events.proofs.events.read_placed_events.Goals as goal

pub returns-in-Err-clause-told : goal.returns-in-Err-clause-told
returns-in-Err-clause-told g c =
    let was = c.in-Err.ensures.told in
    let told = takes_more g.S.PlacedSink.takes _ _ _ was.events (failed (spelled_fault c.in-Err.fault)) was.told c.fault.ensures in
    rw was.are.0 (record { events = _; told = told; are = (was.events, was.are.1, refl) })
