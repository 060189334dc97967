use Rattle.std.proofs.Common.{◌≡◌, ◌++◌, ◌∷◌, [], subst, ◌∙◌, true≢false}
use Rattle.influxdb_line_protocol.specs.code.{Bounded.GivesWithin}
use Rattle.influxdb_line_protocol.specs.format.Dialects.{Dialect}
use Rattle.influxdb_line_protocol.specs.laws.StreamLaws.{Run, Run.taken}
use Rattle.lp_series.specs.Counting.{Counts}
use Rattle.lp_series.specs.Texts.{points_of}
use Rattle.lp_series.specs.TextSteps.{CountsGiven, refused_given}
use Rattle.lp_series.specs.CountSteps.{one_if}
use Rattle.lp_series.proofs.TextLemmas.{first_given, points_more, refused_more}
use Rattle.lp_series.proofs.counter.SeriesCounter.count_next.Goals as goal

-- the first piece was counted
pub returns-clause-counts : goal.returns-clause-counts
returns-clause-counts c dialect limit before others given text h =
    let after = c.next.follows.lender-at-none in
    let gives = subst (λ r. GivesWithin c.args.self.now.stream r after) c.in-Some.is c.next.follows.holds-at-none in
    let first = first_given dialect limit c.args.self.now.stream after text c.in-Some.given h.stream_rules h.limit (gives.3 text h.holds) in
    let counted = subst (λ (d : Dialect). CountsGiven d c.args.self.now.counts c.count_given.new.counts c.in-Some.given) h.rules c.in_ok-refused.ensures.counts in (
      first.1,
      record {
        rules = h.rules;
        stream_rules = gives.0.0 ∙ h.stream_rules;
        limit = gives.0.1 ∙ h.limit;
        pieces = h.pieces ++ first.0 ∷ [];
        run = taken given h.pieces first.0 first.1 (subst (Run dialect given h.pieces) first.3.0 h.run) first.3.1;
        holds = first.4;
        counts = subst (Counts c.count_given.new.counts) (points_more dialect limit before h.pieces first.0 c.in-Some.given first.2)
            (counted (before ++ points_of dialect limit h.pieces) h.counts);
        refused = refused_more dialect limit others h.pieces first.0 c.in-Some.given c.args.self.now.refused _ _ first.2 h.refused
            (c.one_of-self.ensures c.in_ok-one_more.ensures)
            (subst (λ (d : Dialect). one_if c.in_ok-refused.refused ≡ refused_given d c.in-Some.given) h.rules c.in_ok-refused.ensures.refused);
      },
      λ e. absurd (true≢false e),
    )
