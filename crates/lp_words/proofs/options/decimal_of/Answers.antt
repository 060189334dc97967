use Rattle.std.proofs.Common.{rules, ◌≡◌, false, ◌∙◌}
use Rattle.std.specs.Prelude.{nat_eq, ◌∷◌, []}
use Rattle.std.specs.List.{starts_with}
use Rattle.lp_words.proofs.Decimals.{first-no_plus, parsed-decimal}
use Rattle.lp_words.proofs.options.decimal_of.Goals as goal

pub returns : goal.returns
returns c =
    let no_plus : starts_with nat_eq c.args.word.now (43 ∷ []) ≡ false = search rules in
    c.ok.ensures.value ∙ parsed-decimal c.args.word.now c.parse.result c.parse.ensures.value.0 (first-no_plus c.args.word.now no_plus)
