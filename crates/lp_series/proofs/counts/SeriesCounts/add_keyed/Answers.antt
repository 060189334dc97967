use Rattle.std.proofs.Common.{ℤ, Option, is_none, arith, subst, sym}
use Rattle.std.proofs.lemmas.List.{length_push}
use Rattle.influxdb_line_protocol.specs.code.Parsed.{parsed_point}
use Rattle.influxdb_line_protocol.specs.format.Points.{Point}
use Rattle.lp_series.specs.Counting.{IsGreatest, IsLeast, times_of}
use Rattle.lp_series.proofs.CountLemmas.{times_push}
use Rattle.lp_series.proofs.KeptLemmas.{count_push}
use Rattle.lp_series.proofs.counts.SeriesCounts.add_keyed.Goals as goal

-- a line more is counted
pub returns-clause-counts : goal.returns-clause-counts
returns-clause-counts c before counts =
    let p = parsed_point c.args.line.now in
    let kept = c.in_ok-add_by_key.ensures.counts before counts.kept in
    let totals = c.in_ok-add_by_key.ensures.totals in
    record {
      all = record {
        points = grind (arith, counts.all.points, length_push before p);
        without_time = grind (arith, counts.all.without_time, count_push (λ (q : Point). is_none q.timestamp) before p);
        least = subst (IsLeast c.least-self.result) (sym (times_push before p)) (c.least-self.ensures (times_of before)
            (subst (λ (t : Option ℤ). IsLeast t (times_of before)) (sym totals.least_time) counts.all.least));
        greatest = subst (IsGreatest c.greatest-self.result) (sym (times_push before p)) (c.greatest-self.ensures (times_of before)
            (subst (λ (t : Option ℤ). IsGreatest t (times_of before)) (sym totals.greatest_time) counts.all.greatest));
      };
      kept = record { series = kept.series; measurements = kept.measurements; tags = kept.tags };
    }
