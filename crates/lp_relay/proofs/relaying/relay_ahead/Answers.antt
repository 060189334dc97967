use Rattle.std.proofs.Common.{subst, sym, arith}
use Rattle.std.proofs.lemmas.Result.{on_ok_weaker}
use Rattle.influxdb_line_protocol.specs.code.Bounded.{TellsOf}
use Rattle.influxdb_line_protocol.specs.format.Pieces.{IsLastPiece}
use Rattle.lp_relay.proofs.RelaysSoFar.{so_far_ahead}
use Rattle.lp_relay.proofs.relaying.relay_ahead.Goals as goal

pub returns-then-pending-clause-relays : goal.returns-then-pending-clause-relays
returns-then-pending-clause-relays c given before told h = h

pub returns-then-pending-clause-told : goal.returns-then-pending-clause-told
returns-then-pending-clause-told c text holds is_last long = c.if-pending.true

pub returns-in-Some-clause-relays : goal.returns-in-Some-clause-relays
returns-in-Some-clause-relays c =
    let s = c.args.settings.now in
    let rules = c.requires.ready.0 in
    on_ok_weaker c.take_ahead.result
    (λ takes given before told h. (
      h.0,
      h.1,
      so_far_ahead s given h.0 c.in-Some.fault before _ _ h.2 c.if-pending.false h.3
          (subst (λ l. TellsOf l h.0 c.in-Some.fault) rules.1
          (c.in-Some.ensures h.0 h.1 (subst (λ d. IsLastPiece d h.0) (sym rules.0) h.3)))
          takes,
      h.3,
    ))
    c.take_ahead.ensures.taken

pub returns-in-Some-clause-told : goal.returns-in-Some-clause-told
returns-in-Some-clause-told c = on_ok_weaker c.take_ahead.result (λ takes text holds is_last long. takes.ahead) c.take_ahead.ensures.taken

pub returns-in-None-clause-relays : goal.returns-in-None-clause-relays
returns-in-None-clause-relays c given before told h = h

pub returns-in-None-clause-told : goal.returns-in-None-clause-told
returns-in-None-clause-told c text holds is_last long =
    let rules = c.requires.ready.0 in
    let short = c.in-None.ensures text holds (subst (λ d. IsLastPiece d text) (sym rules.0) is_last) in
    absurd (omega (arith, short, rules.1, long.0))
