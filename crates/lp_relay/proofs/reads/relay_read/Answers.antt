use Rattle.std.proofs.Common.{◌≡◌, ◌+◌, ◌++◌, ◌∙◌, Err, Ok, ap, arith}
use Rattle.lp_conditions.specs.FieldTypes.{types_of}
use Rattle.lp_conditions.specs.KindCounts.{counts_if}
use Rattle.lp_relay.specs.Reads.{settings_from}
use Rattle.lp_relay.specs.RelaySteps.{Start, Unwritten, items_before, stage_of, unwritten_of_none}
use Rattle.lp_relay.proofs.ReadLemmas.{fronts_and_more, so_far_held}
use Rattle.lp_relay.proofs.RelayLemmas.{at_fault}
use Rattle.lp_relay.proofs.RelaysSoFar.{pieces_relayed, so_far_written, unahead}
use Rattle.lp_relay.proofs.reads.relay_read.Goals as goal

pub returns-in_err-relay_complete-clause-relays : goal.returns-in_err-relay_complete-clause-relays
returns-in_err-relay_complete-clause-relays g c text holds is_last =
    let s = c.args.settings in
    let start : Start = record { told = g.O.ThreeWriters.told c.args.outputs.now; types = types_of c.args.types.now } in
    let is = c.nothing_made-pending.ensures.made ∙ ap (λ k. unwritten_of_none s (types_of k)) c.replace-known.ensures.value in
    at_fault _ c.from_residual.result c.from_residual.ensures.0
    (fronts_and_more c.pieces_join.ensures.some c.pieces_join.ensures.one c.runs_give_pieces.ensures.runs s (text ++ c.args.part.now) start _
    (c.in_err-relay_complete.ensures.relays text start (so_far_held s start c.args.stream.now _ text holds is_last is)))

pub returns-in_err-pour_and_flush-clause-relays : goal.returns-in_err-pour_and_flush-clause-relays
returns-in_err-pour_and_flush-clause-relays g c text holds is_last =
    let s = c.args.settings in
    let start : Start = record { told = g.O.ThreeWriters.told c.args.outputs.now; types = types_of c.args.types.now } in
    let is = c.nothing_made-pending.ensures.made ∙ ap (λ k. unwritten_of_none s (types_of k)) c.replace-known.ensures.value in
    let q = c.in_ok-relay_complete.ensures.relays text start (so_far_held s start c.args.stream.now _ text holds is_last is) in
    at_fault _ c.from_residual-in_err-pour_and_flush.result c.from_residual-in_err-pour_and_flush.ensures.0
    (fronts_and_more c.pieces_join.ensures.some c.pieces_join.ensures.one c.runs_give_pieces.ensures.runs s (text ++ c.args.part.now) start _
    (so_far_written s (text ++ c.args.part.now) q.0 start (Err c.in_err-pour_and_flush.field-0.0) _
    (stage_of c.pour_and_flush.new.pending (g.O.ThreeWriters.told c.pour_and_flush.new.outputs)) c.in_err-pour_and_flush.ensures.writes q.2))

pub returns-clause-relays : goal.returns-clause-relays
returns-clause-relays g c text holds is_last =
    let s = c.args.settings in
    let start : Start = record { told = g.O.ThreeWriters.told c.args.outputs.now; types = types_of c.args.types.now } in
    let is = c.nothing_made-pending.ensures.made ∙ ap (λ k. unwritten_of_none s (types_of k)) c.replace-known.ensures.value in
    let q = c.in_ok-relay_complete.ensures.relays text start (so_far_held s start c.args.stream.now _ text holds is_last is) in
    let poured = c.in_ok-pour_and_flush.ensures in
    let pending = c.pour_and_flush.new.pending in
    let end = stage_of pending (g.O.ThreeWriters.told c.pour_and_flush.new.outputs) in
    let t = so_far_written s (text ++ c.args.part.now) q.0 start (Ok tt) _ end poured.writes q.2 in
    let taken = unahead s t.pieces t.ahead start end t.taken
    (poured.ahead ∙ c.in_ok-relay_complete.ensures.unahead (ap (λ (u : Unwritten). u.ahead) is)) in
    let carried : c.counts_of-counts.result.carried + items_before s.numbering s.first ≡ pending.so_far.carried =
    omega (arith, c.counts_of-counts.ensures.carried, taken.made.carried) in (
      q.0,
      q.1,
      record {
        pieces = t.pieces;
        gives = λ rest others are. c.runs_give_pieces.ensures.runs _ _ t.pieces q.0 rest others t.run are;
        is_last = q.3;
        relays = pieces_relayed s t.pieces c.counts_of-counts.result start end taken poured.none.0 poured.none.1 poured.none.2 carried
            c.counts_of-counts.ensures.refused (ap counts_if c.counts_of-counts.ensures.kinds);
        types_are = ap types_of c.replace.ensures.value ∙ taken.made.types;
        settings = c.settings_from-settings.ensures ∙ ap (λ p. settings_from s p c.counts_of-counts.result) taken.place;
      },
    )
