use Rattle.std.proofs.Common.{◌++◌, ◌∷◌, [], None, append-nil, refl, subst, sym}
use Rattle.std.proofs.lemmas.Result.{MatchResult-weaker}
use Rattle.influxdb_line_protocol.specs.code.Bounded.{IsLastOf}
use Rattle.influxdb_line_protocol.specs.code.Rules.{rules_of}
use Rattle.influxdb_line_protocol.specs.format.Pieces.{IsLastPiece}
use Rattle.lp_rebuild.proofs.Parts.{at_no_fault}
use Rattle.lp_relay.proofs.RelayLemmas.{taken_next, taken_so_far}
use Rattle.lp_relay.proofs.RelaysSoFar.{fronts_ahead, fronts_of}
use Rattle.lp_relay.proofs.relaying.finish.Goals as goal

pub returns-then-is_err-clause-relays : goal.returns-then-is_err-clause-relays
returns-then-is_err-clause-relays g c given before h =
    let pieces = h.2.pieces in
    fronts_ahead c.args.settings given pieces (h.0 ∷ []) (pieces ++ h.0 ∷ []) h.2.ahead before (g.O.ThreeWriters.told c.args.outputs.now)
    (taken_so_far c.args.settings pieces h.2.ahead before _ h.2.taken) (h.0, [], refl, h.2.is_ahead) refl
    (c.runs_give_pieces.ensures.end (rules_of c.args.settings.dialect) given pieces h.0 h.2.run h.3)

pub returns-clause-relays : goal.returns-clause-relays
returns-clause-relays g c given before h =
    let pieces = h.2.pieces in
    let all = pieces ++ h.0 ∷ [] in
    let last = subst (λ l. IsLastOf l h.0 c.finish.result) c.requires.ready.0.1
    (c.finish.follows.holds-at-none.2 h.0 h.1 (subst (λ d. IsLastPiece d h.0) (sym c.requires.ready.0.0) h.3)) in
    let ends = c.runs_give_pieces.ensures.end (rules_of c.args.settings.dialect) given pieces h.0 h.2.run h.3 in
    MatchResult-weaker c.pour_and_flush.result
    (c.pour_and_flush.ensures.writes c.args.settings all None before
    (taken_next c.args.settings pieces h.2.ahead h.0 c.finish.result before _ _ h.2.taken h.2.is_ahead last
    (at_no_fault c.take_given.result c.if-is_err.ensures.value c.take_given.ensures.taken)))
    (λ _ t. (all, ends, t))
    (λ _ t.
    fronts_of c.args.settings given all [] all before (g.O.ThreeWriters.told c.pour_and_flush.new.outputs) t (sym (append-nil all)) ends)
