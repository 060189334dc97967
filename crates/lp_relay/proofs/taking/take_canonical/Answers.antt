use Rattle.std.proofs.lemmas.List.{take_rest}
use Rattle.std.proofs.Common.{◌≡◌, List, ℕ, ap, drop, ◌∙◌, arith}
use Rattle.influxdb_line_protocol.specs.code.Rules.{rules_of}
use Rattle.lp_conditions.specs.Differing.{differing_part}
use Rattle.lp_relay.proofs.CanonicalLemmas.{no_refusal, takes_differing}
use Rattle.lp_relay.proofs.taking.take_canonical.Goals as goal

pub returns-clause-taken : goal.returns-clause-taken
returns-clause-taken c =
    let text = c.args.text.now in
    let start = c.len-start.result in
    let part : c.differing_part-part.result ≡ differing_part text (drop start c.take_text.new.batch.items) =
    c.differing_part-part.ensures
    ∙ ap (differing_part text) (take_rest c.deref.result.now start)
    ∙ ap (λ (l : List ℕ). differing_part text (drop start l)) c.deref.ensures.value in
    takes_differing (rules_of c.args.reader.now.dialect) c.args.piece.now text c.args.batch.now.items c.take_text.new.batch.items
    c.truncate.new.self.items start c.differing_part-part.result c.in_ok-wrong.wrong c.requires.text c.written_lines_stay.ensures.written
    c.requires.unwritten
    (no_refusal _ _ _ _ c.in_default.not-Some c.in_ok-refusal.ensures.taken) (omega (arith, c.len-start.ensures)) part c.in_ok-wrong.ensures c.truncate.ensures.items
