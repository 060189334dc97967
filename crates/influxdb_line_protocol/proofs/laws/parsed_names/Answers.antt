use Rattle.lp_lines.proofs.lemmas.names.ParsedNames.{names_are_parsed, strict_fields_end}
use Rattle.influxdb_line_protocol.proofs.lemmas.laws.NamesInLines.{parsed_names_are_in_lines}
use Rattle.influxdb_line_protocol.proofs.laws.parsed_names.Goals as goal

pub returns : goal.returns
returns c = record { all = names_are_parsed; each = parsed_names_are_in_lines; fields_end = strict_fields_end }
