use Rattle.std.proofs.Common.{◌++◌, ◌∷◌, ◌∙◌, [], List, ℕ, ap, refl, sym}
use Rattle.influxdb_line_protocol.specs.code.Rules.{rules_of}
use Rattle.influxdb_line_protocol.specs.format.Bytes.{newline}
use Rattle.lp_relay.proofs.CanonicalLemmas.{takes_copied}
use Rattle.lp_relay.proofs.taking.put_line.Goals as goal

pub returns-then-is_as_written-clause-taken : goal.returns-then-is_as_written-clause-taken
returns-then-is_as_written-clause-taken c =
    let before = c.args.batch.now.items in
    takes_copied c.args.lines (rules_of c.args.reader.now.dialect) c.args.piece.now c.args.text.now before c.copy_line.new.batch.items
    (sym c.if-copies.ensures) c.requires.text c.written_lines_stay.ensures.stay (c.if-is_as_written.ensures.0 refl)
    (c.in_ok-copy_line.ensures ∙ ap (λ (l : List ℕ). before ++ (l ++ newline ∷ [])) c.as_bytes.ensures.value)
