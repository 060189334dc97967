use Rattle.lp_portable.proofs.AnsweredAlike.{lines_are_answered_alike}
use Rattle.lp_portable.proofs.NamesAlike.{influx_names_mean_the_same, portable_lines_are_read_alike, victoria_lines_are_read_alike}
use Rattle.influxdb_line_protocol.proofs.laws.portable_lines_are_read_alike.Goals as goal

pub returns : goal.returns
returns c = record {
  dialects = lines_are_answered_alike;
  victoria = victoria_lines_are_read_alike;
  influx = influx_names_mean_the_same;
  all = portable_lines_are_read_alike;
}
