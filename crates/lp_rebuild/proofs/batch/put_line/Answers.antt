use Rattle.std.proofs.Common.{◌++◌, ◌∷◌, [], ap, ◌∙◌}
use Rattle.influxdb_line_protocol.specs.code.Rules.{rules_of}
use Rattle.influxdb_line_protocol.specs.format.Bytes.{newline}
use Rattle.lp_rebuild.proofs.RebuildLemmas.{copied_line}
use Rattle.lp_rebuild.proofs.batch.put_line.Goals as goal

pub returns-then-is_as_written-clause-taken : goal.returns-then-is_as_written-clause-taken
returns-then-is_as_written-clause-taken c =
    let dialect = rules_of c.args.reader.now.dialect in
    let stays = c.written_lines_stay.ensures.stay dialect c.args.text.now (c.is_as_written.ensures.0 c.if-is_as_written.true) in
    copied_line dialect c.args.text.now c.args.batch.now.items _ stays
    (c.in_ok-copy_line.ensures ∙ ap (λ l. c.args.batch.now.items ++ (l ++ newline ∷ [])) c.as_bytes.ensures.value)
