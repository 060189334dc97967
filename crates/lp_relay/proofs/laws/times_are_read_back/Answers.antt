use Rattle.lp_relay.proofs.TimeLaws.{timed_pieces_are_read_back, times_are_read_back}
use Rattle.lp_relay.proofs.laws.times_are_read_back.Goals as goal

pub returns-clause-lines : goal.returns-clause-lines
returns-clause-lines c = times_are_read_back

pub returns-clause-pieces : goal.returns-clause-pieces
returns-clause-pieces c = timed_pieces_are_read_back
