use Rattle.influxdb_line_protocol.specs.code.Rules.{rules_of}
use Rattle.std.proofs.Common.{◌+◌, ◌++◌, [], subst, take}
use Rattle.lp_relay.specs.RelaySteps.{SoFar, SomeSoFar, TakesFirst, stage_of}
use Rattle.lp_rebuild.proofs.Parts.{at_no_fault}
use Rattle.lp_cuts.proofs.CutLemmas.{none_is_last}
use Rattle.lp_relay.proofs.RelayLemmas.{at_fault}
use Rattle.lp_relay.proofs.RelaysSoFar.{front_is, nothing_given, rest_is, so_far_given, some_given, some_of_front, some_so_far}
use Rattle.lp_relay.proofs.WholeLines.{line_ended}
use Rattle.lp_relay.proofs.relaying.relay_begun.Goals as goal

pub returns-in_default-clause-relays : goal.returns-in_default-clause-relays
returns-in_default-clause-relays g c given before h = nothing_given c.args.settings given c.args.stream.now before _ h

pub returns-then-is_err-clause-relays : goal.returns-then-is_err-clause-relays
returns-then-is_err-clause-relays g c given before h =
    some_given c.args.settings given c.args.part.now before _ (some_so_far c.args.settings given h.0 before _ h.2)

pub returns-in_err-relay_piece-clause-relays : goal.returns-in_err-relay_piece-clause-relays
returns-in_err-relay_piece-clause-relays g c given before h =
    let line = take (c.in-Some.at + 1) c.args.part.now in
    at_fault _ c.from_residual.result c.from_residual.ensures.0
    (some_of_front c.args.settings given c.args.part.now (c.in-Some.at + 1) before _
    (c.in_err-relay_piece.ensures.relays (given ++ line) (h.0 ++ line) before
    (at_no_fault c.push.result c.if-is_err.ensures.value c.push.ensures.ok h.0 h.1)
    (so_far_given c.args.settings given h.0 line before _ h.2)))

pub returns-then-not-branch-clause-relays : goal.returns-then-not-branch-clause-relays
returns-then-not-branch-clause-relays g c given before h =
    let line = take (c.in-Some.at + 1) c.args.part.now in
    let q = c.in_ok-relay_piece.ensures.relays (given ++ line) (h.0 ++ line) before
    (at_no_fault c.push.result c.if-is_err.ensures.value c.push.ensures.ok h.0 h.1)
    (so_far_given c.args.settings given h.0 line before _ h.2) in
    (q.0, q.1, q.2, subst (λ some. TakesFirst (rules_of c.args.settings.dialect) (h.0 ++ line) some q.0) c.if-not-branch.true q.3)

pub returns-in_err-taken-clause-relays : goal.returns-in_err-taken-clause-relays
returns-in_err-taken-clause-relays g c given before h =
    let part = c.args.part.now in
    let line = take (c.in-Some.at + 1) part in
    let q = c.in_ok-relay_piece.ensures.relays (given ++ line) (h.0 ++ line) before
    (at_no_fault c.push.result c.if-is_err.ensures.value c.push.ensures.ok h.0 h.1)
    (so_far_given c.args.settings given h.0 line before _ h.2) in
    let ended = line_ended c.pieces_join.ensures.some c.pieces_join.ensures.one c.args.settings (given ++ line) h.0 part c.in-Some.at
    c.relay_piece.new.stream before _ h.3 c.in-Some.ensures.1 c.in-Some.ensures.2
    (q.0, q.1, q.2, subst (λ some. TakesFirst (rules_of c.args.settings.dialect) (h.0 ++ line) some q.0) c.if-not-branch.false q.3) in
    at_fault _ c.from_residual-in_err-taken.result c.from_residual-in_err-taken.ensures.0
    (subst (λ l. SomeSoFar c.args.settings l before (g.O.ThreeWriters.told c.relay_lines.new.outputs))
    (rest_is given part (c.in-Some.at + 1)) (c.in_err-taken.ensures.relays (given ++ line) before ended.1))

pub returns-clause-relays : goal.returns-clause-relays
returns-clause-relays g c given before h =
    let part = c.args.part.now in
    let line = take (c.in-Some.at + 1) part in
    let q = c.in_ok-relay_piece.ensures.relays (given ++ line) (h.0 ++ line) before
    (at_no_fault c.push.result c.if-is_err.ensures.value c.push.ensures.ok h.0 h.1)
    (so_far_given c.args.settings given h.0 line before _ h.2) in
    let ended = line_ended c.pieces_join.ensures.some c.pieces_join.ensures.one c.args.settings (given ++ line) h.0 part c.in-Some.at
    c.relay_piece.new.stream before _ h.3 c.in-Some.ensures.1 c.in-Some.ensures.2
    (q.0, q.1, q.2, subst (λ some. TakesFirst (rules_of c.args.settings.dialect) (h.0 ++ line) some q.0) c.if-not-branch.false q.3) in (
      [],
      ended.0,
      subst
          (λ l. SoFar c.args.settings l [] before
          (stage_of c.relay_lines.new.pending (g.O.ThreeWriters.told c.relay_lines.new.outputs)))
          (front_is given part (c.in-Some.at + 1) c.in_ok-taken.taken) (c.in_ok-taken.ensures.relays (given ++ line) before ended.1),
      none_is_last c.pieces_join.ensures.some (rules_of c.args.settings.dialect),
    )
