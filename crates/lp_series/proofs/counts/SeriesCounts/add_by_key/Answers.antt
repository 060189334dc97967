use Rattle.std.proofs.Common.{List, ℕ, refl, subst, sym}
use Rattle.std.specs.BTreeMap.{get_by_text}
use Rattle.lp_series.specs.CountSteps.{CountsKey}
use Rattle.lp_series.proofs.KeptCounts.{at_err, same_numbers}
use Rattle.lp_series.proofs.counts.SeriesCounts.add_by_key.Goals as goal

-- if the series cannot be counted, nothing was
pub returns-in_err-found-clause-kept : goal.returns-in_err-found-clause-kept
returns-in_err-found-clause-kept c = at_err c.from_residual.result (record {
  totals = record { most = refl; points = refl; without_time = refl; least_time = refl; greatest_time = refl };
  beyond = refl;
  series = c.in_err-found.ensures.kept;
  measurements = λ m. same_numbers (get_by_text c.args.self.now.measurements m);
})

-- a line more of its series
pub returns-in-Ok-clause-counts : goal.returns-in-Ok-clause-counts
returns-in-Ok-clause-counts c ps kept =
    c.in-Ok.ensures.counts c.args.self.now ps
    (subst (λ (key : List ℕ). CountsKey c.args.self.now.max_series c.in_ok-found.found key c.args.self.now.series c.count_key.new.series)
    c.requires c.in_ok-found.ensures.counts) kept

-- if a line cannot be counted, its series is counted no more
pub returns-in-Err-clause-kept : goal.returns-in-Err-clause-kept
returns-in-Err-clause-kept c = record {
  totals = record {
    most = c.add_found.ensures.totals.most;
    points = c.add_found.ensures.totals.points;
    without_time = c.add_found.ensures.totals.without_time;
    least_time = c.add_found.ensures.totals.least_time;
    greatest_time = c.add_found.ensures.totals.greatest_time;
  };
  beyond = c.in-Err.ensures.beyond;
  series = c.uncount_key.ensures c.args.self.now.max_series c.args.self.now.series
      (subst (λ table. CountsKey c.args.self.now.max_series c.in_ok-found.found c.args.key.now c.args.self.now.series table)
      (sym c.add_found.ensures.series) c.in_ok-found.ensures.counts);
  measurements = c.in-Err.ensures.measurements;
}
