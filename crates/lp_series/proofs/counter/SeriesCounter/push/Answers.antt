use Rattle.std.proofs.Common.{refl, ◌++◌, ◌∙◌}
use Rattle.influxdb_line_protocol.specs.laws.StreamLaws.{Run.pushed}
use Rattle.lp_series.specs.Texts.{points_of}
use Rattle.lp_series.proofs.KeptCounts.{numbers_counted, same_counts}
use Rattle.lp_series.proofs.TextLemmas.{at_error}
use Rattle.lp_series.proofs.counter.SeriesCounter.push.Goals as goal

-- if the part could not be held, nothing was counted
pub returns-in_err-push-clause-some : goal.returns-in_err-push-clause-some
returns-in_err-push-clause-some c = at_error _ c.from_residual.result c.from_residual.ensures.0 (λ dialect limit before others given h. record {
  pieces = h.1.pieces;
  left = h.0 ++ c.args.part.now;
  run = pushed given h.1.pieces h.0 c.args.part.now h.1.run;
  counts = numbers_counted c.args.self.now.counts c.args.self.now.counts (before ++ points_of dialect limit h.1.pieces)
      (same_counts c.args.self.now.counts) h.1.counts;
})

-- the part was given
pub loop-init : goal.loop-init
loop-init c = record {
  most = refl;
  counted = λ dialect limit before others given h. (
    h.0 ++ c.args.part.now,
    record {
      rules = h.1.rules;
      stream_rules = c.in_ok-push.ensures.rules.0 ∙ h.1.stream_rules;
      limit = c.in_ok-push.ensures.rules.1 ∙ h.1.limit;
      pieces = h.1.pieces;
      run = pushed given h.1.pieces h.0 c.args.part.now h.1.run;
      holds = c.in_ok-push.ensures.ok h.0 h.1.holds;
      counts = h.1.counts;
      refused = h.1.refused;
    },
  );
}

-- if a line could not be counted, those before it were
pub returns-in_err-count_next-clause-some : goal.returns-in_err-count_next-clause-some
returns-in_err-count_next-clause-some c =
    at_error _ c.from_residual-in_err-count_next.result c.from_residual-in_err-count_next.ensures.0 (λ dialect limit before others given h.
    let p = c.loop.invariant.counted dialect limit before others given h in
    record {
      pieces = p.1.pieces;
      left = p.0;
      run = p.1.run;
      counts = numbers_counted c.loop.self.counts c.count_next.new.self.counts (before ++ points_of dialect limit p.1.pieces)
          c.in_err-count_next.ensures.kept p.1.counts;
    })

-- a piece more was counted
pub loop-preserved : goal.loop-preserved
loop-preserved c = record {
  most = c.in_ok-count_next.ensures.most ∙ c.loop.invariant.most;
  counted = λ dialect limit before others given h.
      let p = c.loop.invariant.counted dialect limit before others given h in
      let q = c.in_ok-count_next.ensures.counts dialect limit before others (given ++ c.args.part.now) p.0 p.1 in
      (q.0, q.1);
}

-- no piece is left that a newline ends
pub returns-clause-counts : goal.returns-clause-counts
returns-clause-counts c dialect limit before others given h =
    let p = c.loop.invariant.counted dialect limit before others given h in
    let q = c.in_ok-count_next.ensures.counts dialect limit before others (given ++ c.args.part.now) p.0 p.1 in
    (q.0, q.1, q.2 c.if-branch.false)
