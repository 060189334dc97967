use Rattle.std.proofs.Common.{refl}
use Rattle.influxdb_line_protocol.proofs.lemmas.laws.AdmittedLines.{one_line_adds_its_point}
use Rattle.influxdb_line_protocol.proofs.builder.admitted.write_admitted_line_in.Goals as goal

pub returns-in-Ok-clause-reads_back : goal.returns-in-Ok-clause-reads_back
returns-in-Ok-clause-reads_back g c =
    let admitted = c.if-not-is_written_in.ensures.written refl in
    (admitted.admitted, one_line_adds_its_point _ _ _ admitted.is_point c.in-Ok.ensures.ok)
