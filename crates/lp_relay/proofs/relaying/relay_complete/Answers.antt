use Rattle.std.proofs.Common.{◌++◌, MatchResult, subst, take}
use Rattle.lp_relay.specs.RelaySteps.{SoFarBy, SomeSoFar, stage_of}
use Rattle.lp_relay.proofs.RelayLemmas.{at_fault}
use Rattle.lp_relay.proofs.RelaysSoFar.{rest_is}
use Rattle.lp_relay.proofs.relaying.relay_complete.Goals as goal

pub returns-in_err-given-clause-relays : goal.returns-in_err-given-clause-relays
returns-in_err-given-clause-relays g c given before h =
    at_fault _ c.from_residual.result c.from_residual.ensures.0 (c.in_err-given.ensures.relays given before h)

pub returns-clause-relays : goal.returns-clause-relays
returns-clause-relays g c given before h =
    let n = c.in_ok-given.given in
    let s = c.args.settings in
    let told = g.O.ThreeWriters.told c.relay_pieces.new.outputs in
    subst
    (λ l. MatchResult c.relay_pieces.result (λ _. SoFarBy s l c.relay_pieces.new.stream before (stage_of c.relay_pieces.new.pending told))
    (λ _. SomeSoFar s l before told))
    (rest_is given c.args.part.now n)
    (c.relay_pieces.ensures.relays (given ++ take n c.args.part.now) before (c.in_ok-given.ensures.relays given before h))
