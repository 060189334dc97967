use Rattle.std.proofs.Common.{arith, take_all}
use Rattle.lp_lines.proofs.filling.put_tag.Goals as goal

pub returns-then-at-len-clause-needs : goal.returns-then-at-len-clause-needs
returns-then-at-len-clause-needs c = λ refused. let needs = c.push_tag-is_pushed.ensures.needs refused in grind (arith, take_all)
