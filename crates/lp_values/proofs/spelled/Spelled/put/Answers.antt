use Rattle.std.proofs.Common.{arith, rules}
use Rattle.lp_values.proofs.lemmas.tokens.TokenLemmas.{room_left, stretch_put}
use Rattle.lp_values.proofs.spelled.Spelled.put.Goals as goal

pub loop-at-preserved : goal.loop-at-preserved
loop-at-preserved c =
    let was = c.loop-at.invariant.put in
    let next = c.stretch_at-from in
    let room = room_left _ _ c.args.to.now c.loop-at.to _ _ c.loop-at.place was (rw (← c.as_bytes-spelling.ensures.value) at c.requires)
    next.ensures.value in
    record {
      within = next.ensures.within;
      put = stretch_put _ _ _ _ _ _ _ _ _ was next.ensures.value room (omega arith) (search rules);
    }
