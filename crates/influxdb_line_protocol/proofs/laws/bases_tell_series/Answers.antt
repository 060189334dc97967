use Rattle.lp_lines.proofs.lemmas.series.BasesTellSeries.{clear_series_have_bases, same_series_have_one_base}
use Rattle.influxdb_line_protocol.proofs.lemmas.laws.BasesApart.{one_base_is_one_series, plain_series_are_clear, safe_bases_tell_series}
use Rattle.influxdb_line_protocol.proofs.lemmas.laws.BasesApart.{same_series_are_safe_alike}
use Rattle.lp_build.proofs.lemmas.series.ParsedSeries.{read_series_are_parsed}
use Rattle.influxdb_line_protocol.proofs.laws.bases_tell_series.Goals as goal

pub returns : goal.returns
returns c = record {
  exist = clear_series_have_bases;
  same = same_series_have_one_base;
  only = one_base_is_one_series;
  plain = plain_series_are_clear;
  read = read_series_are_parsed;
  safe = safe_bases_tell_series;
  alike = same_series_are_safe_alike;
}
