use Rattle.std.proofs.Common.{subst}
use Rattle.std.specs.Io.KnownBytes.{Appends}
use Rattle.lp_rebuild.specs.Running.{AppendsFront}
use Rattle.lp_relay.proofs.PassLemmas.{but_written}
use Rattle.lp_relay.proofs.RelayLemmas.{at_fault, taken_some}
use Rattle.lp_relay.proofs.relaying.pour.Goals as goal

pub returns-in_err-put-clause-writes : goal.returns-in_err-put-clause-writes
returns-in_err-put-clause-writes g c s pieces ahead before h =
    let put = c.in_err-put.ensures.part in
    at_fault _ c.from_residual.result c.from_residual.ensures.0
    (taken_some s pieces ahead before (g.O.ThreeWriters.told c.put.new.self) _ h (
      subst (AppendsFront _ _) c.as_slice.ensures.value put.0,
      subst (AppendsFront _ _) c.as_bytes.ensures.value put.1,
      subst (AppendsFront _ _) c.as_slice-2.ensures.value put.2,
    ))

pub returns-clause-writes : goal.returns-clause-writes
returns-clause-writes g c s pieces ahead before h =
    let put = c.in_ok-put.ensures.ok in
    let was = h.made in
    record {
      made = record {
        lines = but_written _ _ _ _ _ _ was.lines (subst (Appends _ _) c.as_slice.ensures.value put.0) c.clear.ensures.items;
        faults = but_written _ _ _ _ _ _ was.faults (subst (Appends _ _) c.as_bytes.ensures.value put.1) c.clear-2.ensures.bytes;
        refused = but_written _ _ _ _ _ _ was.refused (subst (Appends _ _) c.as_slice-2.ensures.value put.2) c.clear-3.ensures.items;
        carried = was.carried;
        refusals = was.refusals;
        kinds = was.kinds;
        types = was.types;
      };
      place = h.place;
      is_ahead = h.is_ahead;
    }
