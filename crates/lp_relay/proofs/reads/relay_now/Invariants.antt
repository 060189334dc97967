use Rattle.std.proofs.Common.{◌≡◌, ◌≤◌, length}
use Rattle.lp_conditions.specs.FieldTypes.{types_of}
use Rattle.lp_relay.specs.RelaySteps.{HasRules}
use Rattle.lp_relay.specs.Writers.{CountsNone, bytes_of, failures_of}
use Rattle.lp_relay.proofs.ReadLemmas.{ReadSoFar}
use Rattle.lp_relay.proofs.reads.relay_now.Given as goal

abbrev pub invariant-loop : goal.invariant-loop
invariant-loop g l = record {
  rules : HasRules l.own l.stream;
  block : length l.block.items ≤ 65536;
  so_far : ReadSoFar l.fn.settings (g.R.Source.bytes l.initial.reader) (g.R.Source.bytes l.reader) l.stream
      (g.C.Clock.told l.initial.clock) (g.C.Clock.told l.clock) (bytes_of (g.O.ThreeWriters.told l.initial.outputs))
      (bytes_of (g.O.ThreeWriters.told l.outputs)) l.total l.own (types_of l.types);
  reader_unfailed : g.R.Source.failures l.reader ≡ g.R.Source.failures l.initial.reader;
  unfailed : CountsNone (failures_of (g.O.ThreeWriters.told l.initial.outputs)) (failures_of (g.O.ThreeWriters.told l.outputs));
}
