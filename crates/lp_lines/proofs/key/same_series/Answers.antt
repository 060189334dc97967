use Rattle.std.proofs.Common.{◌≡◌, ◌∙◌, sym, true, arith, take_all, append-nil, map, nat_eq, option_map}
use Rattle.std.proofs.lemmas.{Bool.cases_Bool, Bool.false≢true, Cmp.nat_list_eq_equiv, List.drop_all}
use Rattle.std.specs.Cmp.Lexicographic.{pointwise, same_text}
use Rattle.lp_format.specs.format.{logical_tag, some_tags}
use Rattle.lp_lines.specs.code.{Keys.lent_tag, Keys.series_key, Keys.sorted_by, Parsed.tags_of}
use Rattle.lp_lines.proofs.lemmas.series.KeyParts.{key_parts, same_keys}
use Rattle.lp_lines.proofs.key.same_series.Goals as goal

pub returns-then-ne-clause-value : goal.returns-then-ne-clause-value
unfolding series_key
returns-then-ne-clause-value c = grind (arith, cases_Bool, false≢true, key_parts, nat_list_eq_equiv.refl)

pub returns-clause-value : goal.returns-clause-value
unfolding series_key
returns-clause-value c =
    let same : pointwise nat_eq c.as_str.result.now c.as_str-2.result.now ≡ true = grind (arith, cases_Bool, false≢true) in
    let measurement = sym c.as_str.ensures.value ∙ same_text c.as_str.result.now c.as_str-2.result.now (sym same) ∙ c.as_str-2.ensures.value in
    let names : map lent_tag c.as_slice.result.now
    ≡ sorted_by (λ t. t.key) (map logical_tag (some_tags (option_map tags_of c.args.series.now.tag_set))) = grind (arith, take_all, drop_all, append-nil) in
    let others : map lent_tag c.as_slice-2.result.now
    ≡ sorted_by (λ t. t.key) (map logical_tag (some_tags (option_map tags_of c.args.other.now.tag_set))) = grind (arith, take_all, drop_all, append-nil) in
    same_keys _ _ _ _ _ _ c.are_same.result measurement names others c.are_same.ensures
