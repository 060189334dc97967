use Rattle.lp_conditions.proofs.DifferingLemmas.{fronts_stop_in_the_part}
use Rattle.lp_relay.proofs.laws.fronts_stop_in_the_part.Goals as goal

pub returns : goal.returns
returns c = fronts_stop_in_the_part
