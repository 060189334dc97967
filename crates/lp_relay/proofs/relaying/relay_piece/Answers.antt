use Rattle.std.proofs.Common.{Err, Ok, subst}
use Rattle.influxdb_line_protocol.specs.code.Bounded.{GivesWithin}
use Rattle.lp_relay.specs.RelaySteps.{stage_of}
use Rattle.lp_rebuild.proofs.Parts.{at_no_fault}
use Rattle.lp_relay.proofs.RelayLemmas.{at_fault}
use Rattle.lp_relay.proofs.RelaysSoFar.{first_of_held, so_far_more, so_far_written, some_so_far}
use Rattle.lp_relay.proofs.relaying.relay_piece.Goals as goal

pub returns-then-is_err-clause-relays : goal.returns-then-is_err-clause-relays
returns-then-is_err-clause-relays g c given text before holds h = some_so_far _ given text before _ h

pub returns-in_err-pour_full-clause-relays : goal.returns-in_err-pour_full-clause-relays
returns-in_err-pour_full-clause-relays g c given text before holds h =
    let after = c.next.follows.lender-at-none in
    let gives = subst (λ r. GivesWithin c.args.stream.now r after) c.in-Some.is c.next.follows.holds-at-none in
    let first = first_of_held c.args.settings c.args.stream.now after text c.in-Some.piece c.requires.ready.0 (gives.3 text holds) in
    at_fault _ c.from_residual.result c.from_residual.ensures.0
    (so_far_written c.args.settings given first.1 before (Err c.in_err-pour_full.field-0.0) _
    (stage_of c.pour_full.new.pending (g.O.ThreeWriters.told c.pour_full.new.outputs)) c.in_err-pour_full.ensures.writes
    (so_far_more c.pieces_join.ensures.some c.pieces_join.ensures.one c.args.settings given text first.0 first.1 c.in-Some.piece before _ _ h first.2 first.3
    (at_no_fault c.take_given.result c.if-is_err.ensures.value c.take_given.ensures.taken)))

pub returns-clause-relays : goal.returns-clause-relays
returns-clause-relays g c given text before holds h =
    let after = c.next.follows.lender-at-none in
    let gives = subst (λ r. GivesWithin c.args.stream.now r after) c.in-Some.is c.next.follows.holds-at-none in
    let first = first_of_held c.args.settings c.args.stream.now after text c.in-Some.piece c.requires.ready.0 (gives.3 text holds) in (
      first.1,
      first.4,
      so_far_written c.args.settings given first.1 before (Ok tt) _ _ c.in_ok-pour_full.ensures.writes
          (so_far_more c.pieces_join.ensures.some c.pieces_join.ensures.one c.args.settings given text first.0 first.1 c.in-Some.piece before _ _ h first.2 first.3
          (at_no_fault c.take_given.result c.if-is_err.ensures.value c.take_given.ensures.taken)),
      (first.0, first.3),
    )
