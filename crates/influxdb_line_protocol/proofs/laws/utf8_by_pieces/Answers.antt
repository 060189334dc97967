use Rattle.std.proofs.{Common.arith}
use Rattle.lp_format.specs.format.{newline}
use Rattle.influxdb_line_protocol.proofs.lemmas.laws.NamesInLines.{utf8_around, utf8_joined}
use Rattle.influxdb_line_protocol.proofs.laws.utf8_by_pieces.Goals as goal

pub returns : goal.returns
returns c u t = (λ h. utf8_around u t newline h (omega arith), λ h. utf8_joined h.0 (omega arith) h.1)
