use Rattle.lp_relay.proofs.RelayLemmas.{at_fault, either, taken_kept, taken_so_far}
use Rattle.lp_relay.proofs.relaying.pour_and_flush.Goals as goal

pub returns-in_err-pour-clause-writes : goal.returns-in_err-pour-clause-writes
returns-in_err-pour-clause-writes g c s pieces ahead before h =
    at_fault _ c.from_residual.result c.from_residual.ensures.0 (c.in_err-pour.ensures.writes s pieces ahead before h)

pub returns-clause-writes : goal.returns-clause-writes
returns-clause-writes g c s pieces ahead before h =
    let kept = taken_kept s pieces ahead before (g.O.ThreeWriters.told c.flush.new.self) _ (c.in_ok-pour.ensures.writes s pieces ahead before h)
    c.flush.ensures.bytes in
    either c.flush.result kept (taken_so_far s pieces ahead before _ kept)
