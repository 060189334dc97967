use Rattle.std.proofs.Common.{Option, Some, ℤ, ◌<ℤ◌, rules, sym, subst}
use Rattle.lp_series.specs.Counting.{IsLeast}
use Rattle.lp_series.specs.CountSteps.{with_time}
use Rattle.lp_series.proofs.TimeLemmas.{lesser}
use Rattle.lp_series.proofs.times.least.Goals as goal

-- the new time is the least
pub returns-else-least-new : goal.returns-else-least-new
returns-else-least-new c times so_far =
    let less : c.in-Some.new <ℤ c.in-Some-so_far.least = search rules in
    subst (λ (o : Option ℤ). IsLeast (Some c.in-Some.new) (with_time times o)) (sym c.in-Some.is)
    (lesser times c.in-Some-so_far.least c.in-Some.new less
    (subst (λ (o : Option ℤ). IsLeast o times) c.in-Some-so_far.is so_far))
