use Rattle.std.proofs.Common.{◌<◌, length, subst, sym}
use Rattle.influxdb_line_protocol.specs.code.Rules.{rules_of}
use Rattle.influxdb_line_protocol.specs.format.Lines.{answer}
use Rattle.lp_rebuild.proofs.BatchLemmas.{has_field}
use Rattle.lp_relay.proofs.TimedPieces.{read_as_line}
use Rattle.lp_relay.proofs.taking.take_of_shard.Goals as goal

pub put_if_of_shard-requires : goal.put_if_of_shard-requires
put_if_of_shard-requires c =
    let dialect = rules_of c.args.reader.now.dialect in
    let text = c.args.text.now in
    let line = c.read.new.self.line in
    let read = read_as_line c.in_ok-fault.field-0 line (answer dialect text) c.in_default.not-Some c.in_ok-fault.ensures.read in
    subst (λ l. 0 < length l.field_set.items) (sym c.line.ensures) (has_field c.lines_are_points.ensures dialect text line read)
