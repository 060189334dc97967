use Rattle.std.proofs.Common.{◌≡◌, ◌+◌, ◌∙◌, ap, arith}
use Rattle.lp_conditions.specs.FieldTypes.{types_of}
use Rattle.lp_conditions.specs.KindCounts.{counts_if}
use Rattle.lp_relay.specs.RelaySteps.{Start, items_before, stage_of, unwritten_of_none}
use Rattle.lp_relay.proofs.ReadLemmas.{so_far_held}
use Rattle.lp_relay.proofs.RelayLemmas.{at_fault}
use Rattle.lp_relay.proofs.RelaysSoFar.{pieces_relayed}
use Rattle.lp_relay.proofs.reads.relay_rest.Goals as goal

pub returns-in_err-finish-clause-relays : goal.returns-in_err-finish-clause-relays
returns-in_err-finish-clause-relays g c text holds is_last =
    let s = c.args.settings in
    let start : Start = record { told = g.O.ThreeWriters.told c.args.outputs.now; types = types_of c.args.types.now } in
    let is = c.nothing_made-pending.ensures.made ∙ ap (λ k. unwritten_of_none s (types_of k)) c.replace-known.ensures.value in
    at_fault _ c.from_residual.result c.from_residual.ensures.0
    (c.in_err-finish.ensures.relays text start (so_far_held s start c.args.stream.now _ text holds is_last is))

pub returns-clause-relays : goal.returns-clause-relays
returns-clause-relays g c text holds is_last =
    let s = c.args.settings in
    let start : Start = record { told = g.O.ThreeWriters.told c.args.outputs.now; types = types_of c.args.types.now } in
    let is = c.nothing_made-pending.ensures.made ∙ ap (λ k. unwritten_of_none s (types_of k)) c.replace-known.ensures.value in
    let done = c.in_ok-finish.ensures in
    let all = done.relays text start (so_far_held s start c.args.stream.now _ text holds is_last is) in
    let carried : c.counts_of.result.carried + items_before s.numbering s.first ≡ c.finish.new.pending.so_far.carried =
    omega (arith, c.counts_of.ensures.carried, all.2.made.carried) in (
      all.0,
      all.1,
      pieces_relayed s all.0 c.counts_of.result start (stage_of c.finish.new.pending (g.O.ThreeWriters.told c.finish.new.outputs)) all.2
          done.none.0 done.none.1 done.none.2 carried c.counts_of.ensures.refused (ap counts_if c.counts_of.ensures.kinds),
    )
