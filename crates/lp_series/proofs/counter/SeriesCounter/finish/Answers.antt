use Rattle.std.proofs.Common.{◌≡◌, arith, ◌++◌, ◌∷◌, [], ◌∙◌, append-nil, subst, sym}
use Rattle.influxdb_line_protocol.specs.code.{Bounded.IsLastOf}
use Rattle.influxdb_line_protocol.specs.format.{Dialects.Dialect, Pieces.IsLastPiece}
use Rattle.influxdb_line_protocol.specs.laws.StreamLaws.{Run.begun}
use Rattle.lp_series.specs.Counting.{Counts}
use Rattle.lp_series.specs.Texts.{points_of}
use Rattle.lp_series.specs.TextSteps.{CountsGiven, refused_given}
use Rattle.lp_series.specs.CountSteps.{one_if}
use Rattle.lp_series.proofs.KeptCounts.{numbers_counted, same_counts}
use Rattle.lp_series.proofs.TextLemmas.{points_more, refused_more, at_error, none_is_last}
use Rattle.lp_series.proofs.counter.SeriesCounter.finish.Goals as goal

-- the last piece was counted, and nothing is left
pub returns-clause-counts : goal.returns-clause-counts
returns-clause-counts c dialect limit before others given h =
    let pieces = h.1.pieces ++ h.0 ∷ [] in
    let gives = c.finish-last.follows.holds-at-none in
    let last = subst (λ l. IsLastOf l h.0 c.finish-last.result) h.1.limit
    (gives.2 h.0 h.1.holds (subst (λ d. IsLastPiece d h.0) (sym h.1.stream_rules) h.2)) in
    let counted = subst (λ (d : Dialect). CountsGiven d c.args.self.now.counts c.count_given.new.counts c.finish-last.result) h.1.rules
    c.in_ok-refused.ensures.counts in (
      pieces,
      c.runs_give_pieces.ensures.end dialect given h.1.pieces h.0 h.1.run h.2,
      (
        [],
        record {
          rules = h.1.rules;
          stream_rules = gives.0.0 ∙ h.1.stream_rules;
          limit = gives.0.1 ∙ h.1.limit;
          pieces = [];
          run = begun;
          holds = gives.1;
          counts = subst (Counts c.count_given.new.counts)
              (points_more dialect limit before h.1.pieces h.0 c.finish-last.result last ∙ sym (append-nil (before ++ points_of dialect limit pieces)))
              (counted (before ++ points_of dialect limit h.1.pieces) h.1.counts);
          refused = omega (
            arith,
            refused_more dialect limit others h.1.pieces h.0 c.finish-last.result c.args.self.now.refused _ _ last h.1.refused
                (c.one_of-self.ensures c.in_ok-one_more.ensures)
                (subst (λ (d : Dialect). one_if c.in_ok-refused.refused ≡ refused_given d c.finish-last.result) h.1.rules c.in_ok-refused.ensures.refused),
          );
        },
        none_is_last c.pieces_join.ensures.some dialect,
      ),
    )

-- of all points those of the pieces before the last are counted
pub returns-in_err-refused-clause-some : goal.returns-in_err-refused-clause-some
returns-in_err-refused-clause-some c = at_error _ c.from_residual-in_err-refused.result c.from_residual-in_err-refused.ensures.0 (λ dialect limit before others given h. record {
  pieces = h.1.pieces;
  left = h.0;
  run = h.1.run;
  counts = numbers_counted c.args.self.now.counts c.count_given.new.counts (before ++ points_of dialect limit h.1.pieces)
      c.in_err-refused.ensures.kept h.1.counts;
})

-- if no `u64` holds how many items are refused, nothing was counted
pub returns-in_err-one_more-clause-some : goal.returns-in_err-one_more-clause-some
returns-in_err-one_more-clause-some c = at_error _ c.from_residual.result c.from_residual.ensures.0 (λ dialect limit before others given h. record {
  pieces = h.1.pieces;
  left = h.0;
  run = h.1.run;
  counts = numbers_counted c.args.self.now.counts c.args.self.now.counts (before ++ points_of dialect limit h.1.pieces)
      (same_counts c.args.self.now.counts) h.1.counts;
})
