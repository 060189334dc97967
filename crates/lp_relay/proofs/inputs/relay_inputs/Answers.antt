use Rattle.std.proofs.Common.{arith}
use Rattle.std.proofs.lemmas.List.{drop_more}
use Rattle.lp_relay.proofs.InputLemmas.{inputs_all, inputs_failed, inputs_more, inputs_none}
use Rattle.lp_relay.proofs.inputs.relay_inputs.Goals as goal

pub loop-name-init : goal.loop-name-init
loop-name-init g c = inputs_none c.args.settings c.args.names.now _ _ _ c.none-types.ensures

pub returns-in_err-counts : goal.returns-in_err-counts
returns-in_err-counts g c =
    inputs_failed c.args.settings c.args.names.now _ c.loop-name.name-index c.from_residual.result c.in_err-counts.field-0.0 _ _ _ _ _ _
    c.loop-name.total _ _ _ c.loop-name.own c.from_residual.ensures.1
    (drop_more c.args.names.now c.loop-name.name-index _ c.loop-name-test.true) c.settings_for.ensures c.loop-name.invariant
    c.in_err-counts.ensures

pub loop-name-preserved : goal.loop-name-preserved
loop-name-preserved g c =
    inputs_more c.args.settings c.args.names.now _ c.loop-name.name-index _ _ _ _ _ _ c.loop-name.total c.in_ok-counts.counts _ _ _ _
    c.loop-name.own _ (drop_more c.args.names.now c.loop-name.name-index _ c.loop-name-test.true) c.settings_for.ensures
    c.loop-name.invariant c.in_ok-counts.ensures c.sum_of-total.ensures c.settings_after-own.ensures

pub returns : goal.returns
returns g c =
    inputs_all c.args.settings c.args.names.now c.loop-name.name-index _ _ _ _ c.loop-name.total _ c.loop-name.own
    (omega (arith, c.loop-name-test.false, c.loop-name.auto.name-index-end)) c.loop-name.invariant
