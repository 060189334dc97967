use Rattle.lp_format.proofs.lemmas.split.SplitPieces.{each_line_is_read_alone, lines_are_pieces, lines_are_read_strictly, lines_join}
use Rattle.lp_format.proofs.lemmas.split.SplitPieces.{other_lines_stay}
use Rattle.influxdb_line_protocol.proofs.lemmas.laws.OnOneLine.{strings_are_on_one_line}
use Rattle.influxdb_line_protocol.proofs.laws.lines_are_read_alone.Goals as goal

pub returns : goal.returns
returns c = record {
  pieces = lines_are_pieces;
  strict = lines_are_read_strictly;
  join = lines_join;
  alone = each_line_is_read_alone;
  others = other_lines_stay;
  strings = strings_are_on_one_line;
}
