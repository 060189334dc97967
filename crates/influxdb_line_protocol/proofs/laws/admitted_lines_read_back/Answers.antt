use Rattle.influxdb_line_protocol.proofs.lemmas.laws.AdmittedLines.{admitted_lines_add_points, ended_lines_are_closed, empty_text_is_closed}
use Rattle.influxdb_line_protocol.proofs.laws.admitted_lines_read_back.Goals as goal

pub returns : goal.returns
returns c = record { points = admitted_lines_add_points; empty = empty_text_is_closed; ended = ended_lines_are_closed }
