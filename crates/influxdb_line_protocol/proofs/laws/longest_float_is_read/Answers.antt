use Rattle.lp_format.proofs.lemmas.literals.FloatLemmas.{float_len_float, float_len_longest}
use Rattle.influxdb_line_protocol.proofs.laws.longest_float_is_read.Goals as goal

pub returns : goal.returns
returns c = record { literal = float_len_float; longest = float_len_longest }
