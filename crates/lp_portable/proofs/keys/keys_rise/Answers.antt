use Rattle.std.proofs.{Common.rules, Common.is_lt, Common.nat_cmp, lemmas.List.Sorted.answers_always}
use Rattle.std.specs.Cmp.Lexicographic.{slice_cmp}
use Rattle.lp_lines.proofs.lemmas.series.BaseLemmas.{rise_is}
use Rattle.lp_values.specs.code.Texts.{text_of}
use Rattle.lp_portable.proofs.keys.keys_rise.Goals as goal

pub returns : goal.returns
returns g c = rise_is (λ t. text_of t.0) c.args.items.now c.is_sorted_by.result
    (c.is_sorted_by.ensures.cases (λ x y. is_lt (slice_cmp nat_cmp (text_of x.0) (text_of y.0)))
    (answers_always _ _ _ (λ f a r g k. search rules)))
