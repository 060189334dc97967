use Rattle.lp_relay.proofs.ApartLemmas.{faults_change_no_line, parts_give_lines, parts_give_refused}
use Rattle.lp_relay.proofs.laws.parts_are_relayed_apart.Goals as goal

pub returns-clause-lines : goal.returns-clause-lines
returns-clause-lines c = parts_give_lines c.pieces_join.ensures.one

pub returns-clause-refused : goal.returns-clause-refused
returns-clause-refused c = parts_give_refused c.pieces_join.ensures.one

pub returns-clause-faults : goal.returns-clause-faults
returns-clause-faults c = faults_change_no_line
