use Rattle.std.proofs.Common.{refl}
use Rattle.lp_scan.proofs.lemmas.scan.BareMasks.{tells_bare}
use Rattle.lp_scan.proofs.scan.bare.Goals as goal

pub returns : goal.returns
returns c = tells_bare c.args.marks c.args.backslashes c.escaped.result _ c.escaped.ensures refl
