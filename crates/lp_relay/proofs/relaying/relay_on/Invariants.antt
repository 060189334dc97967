use Rattle.std.proofs.Common.{◌≡◌, ◌≤◌, length, List, ℕ}
use Rattle.std.specs.Io.KnownBytes.{Consumes}
use Rattle.lp_conditions.specs.FieldTypes.{types_of}
use Rattle.lp_relay.specs.RelaySteps.{IsReady, SoFarBy, stage_of}
use Rattle.lp_relay.specs.Writers.{CountsNone, failures_of}
use Rattle.lp_relay.proofs.relaying.relay_on.Given as goal

abbrev pub invariant-loop : goal.invariant-loop
invariant-loop g l = record {
  ready : IsReady l.fn.settings l.stream l.pending;
  block : length l.block.items ≤ 65536;
  so_far : (given : List ℕ) × Consumes (g.R.Source.bytes l.initial.reader) (g.R.Source.bytes l.reader) given
      × SoFarBy l.fn.settings given l.stream (record { told = g.O.ThreeWriters.told l.initial.outputs; types = types_of l.fn.types })
      (stage_of l.pending (g.O.ThreeWriters.told l.outputs));
  reader_unfailed : g.R.Source.failures l.reader ≡ g.R.Source.failures l.initial.reader;
  unfailed : CountsNone (failures_of (g.O.ThreeWriters.told l.initial.outputs)) (failures_of (g.O.ThreeWriters.told l.outputs));
}
