use Rattle.influxdb_line_protocol.specs.code.Rules.{rules_of}
use Rattle.lp_rebuild.proofs.BatchLemmas.{has_field}
use Rattle.lp_rebuild.proofs.batch.take_text.Goals as goal

pub take_line-requires : goal.take_line-requires
take_line-requires c = has_field c.lines_are_points.ensures (rules_of c.args.reader.now.dialect) c.args.text.now c.read.new.self.line (rw c.in-None.is at c.in_ok-read.ensures.read)
