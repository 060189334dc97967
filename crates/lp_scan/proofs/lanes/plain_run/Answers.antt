use Rattle.std.proofs.Common.{arith}
use Rattle.lp_scan.proofs.lemmas.scan.MaskLemmas.{run_is}
use Rattle.lp_scan.proofs.lanes.plain_run.Goals as goal

pub returns : goal.returns
returns c = run_is _ _ _ 16 c.requires (omega arith) _ (rw c.end_mask.ensures at c.first_set.ensures)
