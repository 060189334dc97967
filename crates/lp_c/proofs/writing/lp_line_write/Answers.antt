use Rattle.std.proofs.Common.{[], ◌∷◌, ap, arith, subst}
use Rattle.influxdb_line_protocol.specs.code.Built.{buffer_of}
use Rattle.influxdb_line_protocol.specs.code.Parsed.{parsed_point}
use Rattle.influxdb_line_protocol.specs.format.Lines.{point_of}
use Rattle.influxdb_line_protocol.specs.laws.AdmittedLines.{AddsPoints}
use Rattle.lp_c.proofs.WritingLemmas.{reads_as}
use Rattle.lp_c.proofs.writing.lp_line_write.Goals as goal

pub returns-in-Ok-clause-reads_back : goal.returns-in-Ok-clause-reads_back
returns-in-Ok-clause-reads_back c = λ written.
    let point = parsed_point c.take_line.new.taken in
    let before = (buffer_of c.new.result).items in
    let adds = subst (AddsPoints before (point ∷ [])) (grind arith) c.in-Ok.ensures.reads_back.1 in
    reads_as before c.as_slice.result.now _ _ _ _ _ point c.put_out.ensures written c.admitted_lines_read_back.ensures.empty adds
    c.new.ensures (ap point_of c.in_default-take_line.ensures.ok.1)
