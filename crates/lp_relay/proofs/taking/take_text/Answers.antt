use Rattle.std.proofs.Common.{◌∙◌, ap, sym}
use Rattle.std.proofs.lemmas.Result.{on_ok_weaker}
use Rattle.lp_conditions.specs.FieldTypes.{types_of}
use Rattle.lp_faults.specs.Relaying.{types_of_bytes}
use Rattle.lp_relay.proofs.RelayLemmas.{blank_types}
use Rattle.lp_relay.proofs.RefusalLemmas.{is_blank, takes_blank}
use Rattle.lp_relay.proofs.TimedPieces.{has_line, stays_untimed}
use Rattle.lp_relay.proofs.taking.take_text.Goals as goal

pub returns-then-is_empty-clause-taken : goal.returns-then-is_empty-clause-taken
returns-then-is_empty-clause-taken c =
    let before = c.args.pending.now.so_far.batch.items in
    let types = types_of c.args.pending.now.types in
    let s = c.args.settings.now in
    let piece = c.line_of-piece.result.now in
    let blank = is_blank c.trimmed-text.result.now piece c.is_empty.result c.trimmed-text.ensures c.is_empty.ensures c.if-is_empty.true in
    on_ok_weaker c.end_piece.result
    (λ ends. ends before types (takes_blank s types c.args.whole piece before c.line_of-piece.ensures c.line_of-piece.utf8 blank)
    (sym (ap (types_of_bytes s types) (sym c.line_of-piece.ensures) ∙ blank_types s types piece c.line_of-piece.utf8 blank)))
    c.end_piece.ensures.ends

pub take_timed-requires-clause-line : goal.take_timed-requires-clause-line
take_timed-requires-clause-line c =
    has_line c.args.settings.now c.args.whole.now c.line_of-piece.result.now c.trimmed-text.result.now c.is_empty.result c.line_of-piece.ensures
    c.trimmed-text.ensures c.is_empty.ensures c.if-is_empty.false c.line_of-piece.utf8

pub take_line-requires-clause-timed : goal.take_line-requires-clause-timed
take_line-requires-clause-timed c =
    stays_untimed c.args.settings.now c.args.whole.now c.line_of-piece.result.now c.trimmed-text.result.now
    (has_line c.args.settings.now c.args.whole.now c.line_of-piece.result.now c.trimmed-text.result.now c.is_empty.result c.line_of-piece.ensures
    c.trimmed-text.ensures c.is_empty.ensures c.if-is_empty.false c.line_of-piece.utf8) c.in-None.is
