use Rattle.influxdb_line_protocol.proofs.lemmas.laws.WordsAndKeys.{tags_by_key_are_sorted}
use Rattle.influxdb_line_protocol.proofs.laws.tags_by_key_are_sorted.Goals as goal

pub returns : goal.returns
returns c = tags_by_key_are_sorted
