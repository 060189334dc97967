use Rattle.std.proofs.Common.{rules}
use Rattle.std.proofs.lemmas.List.Sorted.{answers_always}
use Rattle.lp_lines.specs.code.Ranks.{lent_rank, ranked_key}
use Rattle.lp_lines.proofs.lemmas.series.SortedByKey.{by_key, by_key_order, sorted_is}
use Rattle.lp_lines.proofs.ranks.sort_ranked.Goals as goal

pub returns : goal.returns
returns c = sorted_is (λ r. ranked_key (lent_rank r)) c.args.tags.now c.sort_by.new.self
    (c.in_ok-sort_by.ensures.sorted (by_key (λ r. ranked_key (lent_rank r))) (by_key_order (λ r. ranked_key (lent_rank r)))
    (answers_always _ _ _ (λ f a r g h. search rules)))
    (c.in_ok-sort_by.ensures.stable (by_key (λ r. ranked_key (lent_rank r))) (by_key_order (λ r. ranked_key (lent_rank r)))
    (answers_always _ _ _ (λ f a r g h. search rules)))
