use Rattle.std.proofs.{Common.rules, Common.is_lt, Common.nat_cmp, lemmas.List.Sorted.answers_always}
use Rattle.std.specs.Cmp.Lexicographic.{slice_cmp}
use Rattle.lp_lines.specs.code.Ranks.{lent_rank, ranked_key}
use Rattle.lp_lines.proofs.lemmas.series.BaseLemmas.{rise_is}
use Rattle.lp_lines.proofs.ranks.ranks_rise.Goals as goal

pub returns : goal.returns
returns c = rise_is (λ r. ranked_key (lent_rank r)) c.args.tags.now c.is_sorted_by.result
    (c.is_sorted_by.ensures.cases (λ x y. is_lt (slice_cmp nat_cmp (ranked_key (lent_rank x)) (ranked_key (lent_rank y))))
    (answers_always _ _ _ (λ f a r g k. search rules)))
