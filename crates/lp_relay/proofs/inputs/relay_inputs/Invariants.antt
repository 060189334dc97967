use Rattle.lp_conditions.specs.FieldTypes.{types_of}
use Rattle.lp_relay.specs.Inputs.{inputs_told}
use Rattle.lp_relay.proofs.InputLemmas.{RelayedSoFar}
use Rattle.lp_relay.proofs.inputs.relay_inputs.Given as goal

abbrev pub invariant-loop-name : goal.invariant-loop-name
invariant-loop-name g l = RelayedSoFar l.fn.settings l.names l.name-index
    (inputs_told g.N.NextInput.left g.R.Source.failures l.initial.inputs.next l.initial.inputs.reader)
    (inputs_told g.N.NextInput.left g.R.Source.failures l.inputs.next l.inputs.reader)
    (g.O.ThreeWriters.told l.initial.outputs) (g.O.ThreeWriters.told l.outputs) l.total (types_of l.types) l.own
