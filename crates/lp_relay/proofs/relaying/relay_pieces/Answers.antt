use Rattle.std.proofs.Common.{◌++◌, refl, subst, arith}
use Rattle.influxdb_line_protocol.specs.code.Rules.{rules_of}
use Rattle.lp_relay.specs.RelaySteps.{TakesFirst}
use Rattle.lp_rebuild.proofs.Parts.{at_no_fault}
use Rattle.lp_relay.proofs.RelayLemmas.{at_fault}
use Rattle.lp_relay.proofs.RelayEnds.{none_twice}
use Rattle.lp_relay.proofs.RelaysSoFar.{so_far_given, some_given, some_so_far}
use Rattle.lp_relay.proofs.relaying.relay_pieces.Goals as goal

pub returns-then-is_err-clause-relays : goal.returns-then-is_err-clause-relays
returns-then-is_err-clause-relays g c given before h =
    some_given c.args.settings given c.args.part.now before _ (some_so_far c.args.settings given h.0 before _ h.2)

pub loop-init : goal.loop-init
loop-init g c =
    record {
      ready = grind (arith);
      relays = λ given before h. (
        h.0 ++ c.args.part.now,
        at_no_fault c.push.result c.if-is_err.ensures.value c.push.ensures.ok h.0 h.1,
        so_far_given c.args.settings given h.0 c.args.part.now before _ h.2,
      );
      unahead = λ is. is;
      unfailed = record { lines = refl; faults = refl; refused = refl };
    }

pub returns-in_err-relay_piece-clause-relays : goal.returns-in_err-relay_piece-clause-relays
returns-in_err-relay_piece-clause-relays g c given before h =
    let p = c.loop.invariant.relays given before h in
    at_fault _ c.from_residual.result c.from_residual.ensures.0
    (c.in_err-relay_piece.ensures.relays (given ++ c.args.part.now) p.0 before p.1 p.2)

pub loop-preserved : goal.loop-preserved
loop-preserved g c =
    let relayed = c.in_ok-relay_piece.ensures in
    record {
      ready = relayed.ready;
      relays = λ given before h.
          let p = c.loop.invariant.relays given before h in
          let q = relayed.relays (given ++ c.args.part.now) p.0 before p.1 p.2 in
          (q.0, q.1, q.2);
      unahead = λ is. relayed.unahead (c.loop.invariant.unahead is);
      unfailed = none_twice _ _ _ c.loop.invariant.unfailed relayed.counts;
    }

pub returns-clause-relays : goal.returns-clause-relays
returns-clause-relays g c given before h =
    let p = c.loop.invariant.relays given before h in
    let q = c.in_ok-relay_piece.ensures.relays (given ++ c.args.part.now) p.0 before p.1 p.2 in
    (q.0, q.1, q.2, subst (λ some. TakesFirst (rules_of c.args.settings.dialect) p.0 some q.0) c.if-branch.false q.3)

pub returns-clause-unahead : goal.returns-clause-unahead
returns-clause-unahead g c is = c.in_ok-relay_piece.ensures.unahead (c.loop.invariant.unahead is)
