use Rattle.std.proofs.Common.{◌≡◌, ℕ, ◌+◌, [], ◌∷◌, ◌++◌, List, arith, subst}
use Rattle.std.proofs.lemmas.Result.{on_ok_weaker}
use Rattle.influxdb_line_protocol.specs.code.{Parsed.parsed_point}
use Rattle.influxdb_line_protocol.specs.format.{Points.Tag}
use Rattle.lp_series.specs.declared.tables.Found.{Found}
use Rattle.lp_series.specs.Counting.{CountsKept, HasTags, key_of}
use Rattle.lp_series.specs.CountSteps.{CountsKey}
use Rattle.lp_series.proofs.CountLemmas.{beyond_kept, known_kept, new_kept}
use Rattle.lp_series.proofs.counts.SeriesCounts.add_found.Goals as goal

-- a line more of a known series
pub returns-in-Known-clause-counts : goal.returns-in-Known-clause-counts
returns-in-Known-clause-counts c =
    let p = parsed_point c.args.line.now in
    on_ok_weaker c.count_line.result (λ counts before ps step kept.
    let found = subst (λ (f : Found). CountsKey c.args.self.now.max_series f (key_of p) before.series c.args.self.now.series) c.in-Known.is step in
    known_kept c.keys_tell_series.ensures.tell (record c.args.self.now { series = before.series }) p ps kept c.args.self.now.series
    c.count_line.new.measurements found counts) c.count_line.ensures.counts

-- a line more of a new series
pub returns-in_ok-count_tags-in-New-clause-counts : goal.returns-in_ok-count_tags-in-New-clause-counts
returns-in_ok-count_tags-in-New-clause-counts c =
    let p = parsed_point c.args.line.now in
    let line = c.count_line-in-New in
    on_ok_weaker line.result (λ counts before ps step kept.
    let found = subst (λ (f : Found). CountsKey c.args.self.now.max_series f (key_of p) before.series c.args.self.now.series) c.in-New.is step in
    new_kept c.keys_tell_series.ensures.tell (record c.args.self.now { series = before.series }) p ps kept c.args.self.now.series
    line.new.measurements c.count_tags.new.tags found counts
    (λ earlier has. subst (λ (tags : List Tag). HasTags c.count_tags.new.tags (earlier ++ tags)) c.tags_in.ensures (c.in_ok-count_tags-in-New.ensures earlier has)))
    line.ensures.counts

-- a line more of a series that is not kept
pub returns-in_ok-self-in-Beyond-clause-counts : goal.returns-in_ok-self-in-Beyond-clause-counts
returns-in_ok-self-in-Beyond-clause-counts c before ps step kept =
    let p = parsed_point c.args.line.now in
    let found = subst (λ (f : Found). CountsKey c.args.self.now.max_series f (key_of p) before.series c.args.self.now.series) c.in-Beyond.is step in
    let one_more : c.args.self.now.beyond + 1 ≡ c.in_ok-self-in-Beyond.field-0 = grind arith in
    subst (λ (n : ℕ). CountsKept (record c.args.self.now { beyond = n }) (ps ++ p ∷ [])) one_more
    (beyond_kept c.keys_tell_series.ensures.tell (record c.args.self.now { series = before.series }) p ps kept c.args.self.now.series found)
