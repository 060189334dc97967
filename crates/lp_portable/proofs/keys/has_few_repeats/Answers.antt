use Rattle.std.proofs.Common.{◌≡◌, true, false, bytes_eq, take, arith, sym}
use Rattle.std.specs.List.{list_any}
use Rattle.lp_values.specs.code.Texts.{text_of}
use Rattle.lp_portable.proofs.Repeats.{none_more, repeated_here}
use Rattle.lp_portable.proofs.keys.has_few_repeats.Goals as goal

pub returns-then-has_key : goal.returns-then-has_key
returns-then-has_key g c =
    let items = c.args.items.now in
    let at = c.loop-at.at in
    let key = text_of c.index-items-at.result.0 in
    let found : list_any (λ x. bytes_eq key (text_of x.0)) (take at items) ≡ true = grind arith in
    sym (repeated_here items at c.index-items-at.result c.loop-at-test.true c.index-items-at.is found)

pub loop-at-preserved : goal.loop-at-preserved
loop-at-preserved g c =
    let items = c.args.items.now in
    let at = c.loop-at.at in
    let key = text_of c.index-items-at.result.0 in
    let none : list_any (λ x. bytes_eq key (text_of x.0)) (take at items) ≡ false = grind arith in
    none_more items at c.index-items-at.result c.loop-at-test.true c.index-items-at.is none c.loop-at.invariant
