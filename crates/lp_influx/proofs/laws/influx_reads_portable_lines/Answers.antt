use Rattle.lp_influx.proofs.Law.{influx_reads_portable_lines}
use Rattle.lp_influx.proofs.laws.influx_reads_portable_lines.Goals as goal

pub returns : goal.returns
returns c = record { alike = influx_reads_portable_lines }
