use Rattle.std.proofs.Common.{◌∙◌}
use Rattle.lp_rebuild.proofs.Moving.{read_more}
use Rattle.lp_programs.proofs.asked.read_after.Goals as goal

pub loop-preserved : goal.loop-preserved
loop-preserved g c =
    let read = c.in-Ok.ensures in
    let before = c.loop.invariant in
    record {
      within = read.fits;
      consumed = read_more _ _ _ _ _ c.loop.filled c.in-Ok.n read.front before.consumed read.ok;
      unfailed = read.counts ∙ before.unfailed;
    }
