use Rattle.std.proofs.lemmas.Result.{MatchResult-weaker}
use Rattle.lp_relay.specs.RelaySteps.{stage_of}
use Rattle.lp_rebuild.proofs.Parts.{at_no_fault}
use Rattle.lp_relay.proofs.RelayLemmas.{at_fault}
use Rattle.lp_relay.proofs.RelaysSoFar.{so_far_written, some_so_far}
use Rattle.lp_relay.proofs.relaying.relay_part.Goals as goal

pub returns-in_err-relay_complete-clause-relays : goal.returns-in_err-relay_complete-clause-relays
returns-in_err-relay_complete-clause-relays g c given before h =
    at_fault _ c.from_residual.result c.from_residual.ensures.0 (c.in_err-relay_complete.ensures.relays given before h)

pub returns-then-is_err-clause-relays : goal.returns-then-is_err-clause-relays
returns-then-is_err-clause-relays g c given before h = some_so_far _ _ _ _ _ (c.in_ok-relay_complete.ensures.relays given before h).2

pub returns-clause-relays : goal.returns-clause-relays
returns-clause-relays g c given before h =
    let relayed = c.in_ok-relay_complete.ensures.relays given before h in
    let q = at_no_fault c.relay_ahead.result c.if-is_err.ensures.value c.relay_ahead.ensures.relays _ before _ relayed in
    MatchResult-weaker c.pour_and_flush.result
    (so_far_written c.args.settings _ q.0 before c.pour_and_flush.result _
    (stage_of c.pour_and_flush.new.pending (g.O.ThreeWriters.told c.pour_and_flush.new.outputs)) c.pour_and_flush.ensures.writes q.2)
    (λ _ t. (q.0, q.1, t, q.3))
    (λ _ t. t)
