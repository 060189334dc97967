use Rattle.std.proofs.Common.{arith}
use Rattle.influxdb_line_protocol.specs.code.Rules.{rules_of}
use Rattle.influxdb_line_protocol.specs.format.Lines.{answer}
use Rattle.lp_c.proofs.FillLemmas.{plain_answers}
use Rattle.lp_c.proofs.telling.put_item.Goals as goal

pub returns-else-line-ne0-clause-answers : goal.returns-else-line-ne0-clause-answers
returns-else-line-ne0-clause-answers c =
    plain_answers (answer (rules_of c.args.dialect) c.args.text.now) c.put_told.new.line c.put_told.new.parts _ _ c.in_default.ensures.told
    (omega arith) (omega arith)
