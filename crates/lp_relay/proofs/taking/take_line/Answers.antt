use Rattle.std.proofs.Common.{◌≡◌, ◌∙◌, length, refl, arith}
use Rattle.std.proofs.lemmas.Result.{on_ok_weaker}
use Rattle.influxdb_line_protocol.specs.code.Rules.{rules_of}
use Rattle.influxdb_line_protocol.specs.format.Lines.{answer}
use Rattle.lp_conditions.specs.FieldTypes.{types_of}
use Rattle.lp_faults.specs.Relaying.{item_of}
use Rattle.lp_relay.proofs.RefusalLemmas.{takes_by}
use Rattle.lp_relay.proofs.TimedPieces.{kept_timed, takes_timed}
use Rattle.lp_relay.proofs.TypeLemmas.{kept_by}
use Rattle.lp_relay.proofs.taking.take_line.Goals as goal

pub returns-clause-taken : goal.returns-clause-taken
returns-clause-taken c =
    let s = c.args.settings.now in
    let before = c.args.pending.now.so_far.batch.items in
    let here : c.len-start.result ≡ length before = omega (arith, c.len-start.ensures) in
    let piece = c.args.line.piece.now in
    let text = c.args.line.text.now in
    let a = answer (rules_of s.dialect) text in
    let types = types_of c.args.pending.now.types in
    let added = takes_by s piece text c.in_ok-added.added before _ s.lines c.args.reader.now.dialect refl c.requires.dialect c.in_ok-added.ensures.taken in
    let allowed = c.in_ok-allowed.ensures (item_of (rules_of s.dialect) s.lines piece a) before piece here c.requires.text added in
    let kept = kept_by s types _ piece text c.in_ok-allowed.allowed c.len-start.result before _ c.in_ok-taken.taken _ _ here
    (c.in_ok-added.ensures.dialect ∙ c.requires.dialect) c.in_ok-taken.ensures.kept allowed in
    on_ok_weaker c.end_piece.result
    (λ ends. ends before types
    (takes_timed s types c.args.line.whole piece a c.in_ok-taken.taken before c.keep.new.batch.items c.requires.timed kept.0)
    (kept_timed s types _ c.args.line.whole.now piece a c.requires.timed kept.1))
    c.end_piece.ensures.ends
