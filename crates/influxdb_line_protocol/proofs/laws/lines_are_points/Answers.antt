use Rattle.lp_written.proofs.lemmas.points.LinesArePoints.{lines_are_points}
use Rattle.influxdb_line_protocol.proofs.laws.lines_are_points.Goals as goal

pub returns : goal.returns
returns c = lines_are_points
