use Rattle.lp_c.proofs.SureRowLemmas.{risen_are_sure}
use Rattle.lp_c.proofs.sure_rows.are_risen.Goals as goal

pub returns : goal.returns
returns c = λ risen.
    let left = c.loop-left in
    risen_are_sure c.args.text.now c.args.parts.now left.left.now left.last.now c.in_default.len_below left.invariant.all left.invariant.rise
