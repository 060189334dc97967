use Rattle.influxdb_line_protocol.proofs.lemmas.laws.GivenItems.{items_are_of_pieces, items_are_answers, items_so_far}
use Rattle.influxdb_line_protocol.proofs.lemmas.laws.GivenItems.{given_lines_were_read}
use Rattle.influxdb_line_protocol.proofs.laws.items_are_answers.Goals as goal

pub returns : goal.returns
returns c = record { pieces = items_are_of_pieces; answers = items_are_answers; so_far = items_so_far; read = given_lines_were_read }
