use Rattle.std.proofs.Common.{refl}
use Rattle.lp_scan.proofs.lemmas.scan.BareMasks.{tells_escaped}
use Rattle.lp_scan.proofs.scan.escaped.Goals as goal

pub returns-then-backslashes-eq0 : goal.returns-then-backslashes-eq0
returns-then-backslashes-eq0 c = tells_escaped c.args.backslashes 0 (rw c.if-backslashes-eq0.true refl)

pub returns : goal.returns
returns c = tells_escaped c.args.backslashes _ refl
