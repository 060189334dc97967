use Rattle.std.proofs.Common.{◌∙◌, ◌≤◌, ◌⊎◌, ap, arith, inl, inr, is_lt, length}
use Rattle.lp_events.proofs.lemmas.bases.ByteOrder.{order_end}
use Rattle.lp_portable.proofs.keys.rises.Goals as goal
use Rattle.lp_portable.proofs.keys.rises.Goals.{then-loop-at-test+else-at-key, else-loop-at-test}

pub returns : goal.returns
returns c =
    let so_far = c.loop-at.invariant in
    let ends : (length c.args.last.now ≤ c.loop-at.at) ⊎ (length c.args.key.now ≤ c.loop-at.at) = elim c.loop-at-test.branch [
      | then-loop-at-test+else-at-key w ↦ inr (omega (arith, w.if-at-key))
      | else-loop-at-test w ↦ inl (omega (arith, w.loop-at-test))
    ] in
    order_end c.args.last.now c.args.key.now c.loop-at.at so_far.within so_far.less ends ∙ ap is_lt so_far.same
