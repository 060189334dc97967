use Rattle.std.proofs.Common.{refl}
use Rattle.influxdb_line_protocol.specs.code.Rules.{rules_of}
use Rattle.influxdb_line_protocol.specs.format.Lines.{answer}
use Rattle.lp_conditions.proofs.VerdictLemmas.{verdict_is}
use Rattle.lp_conditions.proofs.verdict.fault_of.Goals as goal

pub returns : goal.returns
returns c =
    let was = c.read_line_events.ensures in
    verdict_is _ _ c.args.text.now was.events (answer (rules_of c.args.dialect) c.args.text.now) refl was.told was.are
