use Rattle.lp_format.proofs.lemmas.split.SplitPieces.{comment_text_is_ignored}
use Rattle.influxdb_line_protocol.proofs.laws.pieces_join.Goals as goal

pub returns-clause-comment : goal.returns-clause-comment
returns-clause-comment c = comment_text_is_ignored
