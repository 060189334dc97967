use Rattle.std.proofs.Common.{◌≡◌, ◌++◌, List, false, ℕ}
use Rattle.influxdb_line_protocol.specs.code.Bounded.{Holds, most_given}
use Rattle.lp_relay.specs.RelaySteps.{IsReady, SoFar, SoFarBy, Start, stage_of}
use Rattle.lp_relay.specs.Writers.{CountsNone, failures_of}
use Rattle.lp_relay.proofs.relaying.relay_pieces.Given as goal

abbrev pub invariant-loop : goal.invariant-loop
invariant-loop g l = record {
  ready : IsReady l.fn.settings l.stream l.pending;
  relays : (given : List ℕ) (before : Start)
      → SoFarBy l.fn.settings given l.fn.stream before (stage_of l.initial.pending (g.O.ThreeWriters.told l.initial.outputs))
      → (left : List ℕ) × Holds l.stream left
      × SoFar l.fn.settings (given ++ l.part) left before (stage_of l.pending (g.O.ThreeWriters.told l.outputs));
  unahead : l.initial.pending.ahead ≡ false → l.pending.ahead ≡ false;
  unfailed : CountsNone (failures_of (g.O.ThreeWriters.told l.initial.outputs)) (failures_of (g.O.ThreeWriters.told l.outputs));
}

abbrev pub decreases-loop : goal.decreases-loop
decreases-loop g l = most_given l.stream
