use Rattle.std.proofs.Common.{rules}
use Rattle.std.proofs.lemmas.List.Sorted.{answers_always}
use Rattle.lp_lines.proofs.lemmas.series.SortedByKey.{sorted_is}
use Rattle.lp_lines.proofs.key.sort_names.Goals as goal

pub returns-clause-sorted : goal.returns-clause-sorted
returns-clause-sorted c = sorted_is (λ t. t.0.now) c.args.names.now c.sort_by_key.new.self
    (c.in_ok-sort_by_key.ensures.sorted (λ t. t.0) (answers_always _ _ _ (λ f a r g h. search rules)))
    (c.in_ok-sort_by_key.ensures.stable (λ t. t.0) (answers_always _ _ _ (λ f a r g h. search rules)))
