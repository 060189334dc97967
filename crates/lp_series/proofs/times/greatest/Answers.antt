use Rattle.std.proofs.Common.{Option, Some, ℤ, ◌<ℤ◌, rules, sym, subst}
use Rattle.lp_series.specs.Counting.{IsGreatest}
use Rattle.lp_series.specs.CountSteps.{with_time}
use Rattle.lp_series.proofs.TimeLemmas.{larger}
use Rattle.lp_series.proofs.times.greatest.Goals as goal

-- the new time is the greatest
pub returns-else-new-greatest : goal.returns-else-new-greatest
returns-else-new-greatest c times so_far =
    let less : c.in-Some-so_far.greatest <ℤ c.in-Some.new = search rules in
    subst (λ (o : Option ℤ). IsGreatest (Some c.in-Some.new) (with_time times o)) (sym c.in-Some.is)
    (larger times c.in-Some-so_far.greatest c.in-Some.new less
    (subst (λ (o : Option ℤ). IsGreatest o times) c.in-Some-so_far.is so_far))
