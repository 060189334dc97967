use Rattle.std.proofs.Common.{Option, sym, subst, ◌∙◌}
use Rattle.lp_portable.specs.declared.broken.Broken.{Broken}
use Rattle.lp_portable.specs.code.Telling.{TellsBroken}
use Rattle.lp_portable.proofs.Once.{portable_is, none_is}
use Rattle.lp_portable.proofs.portable.is_portable.Goals as goal

pub returns-in-Some-clause-value : goal.returns-in-Some-clause-value
returns-in-Some-clause-value c =
    let told = subst (λ (o : Option Broken). TellsBroken c.args.limits.now c.args.text.now o) c.in-Some.is c.in_ok-broken.ensures.value in
    let (to, from) = portable_is c.args.to c.args.limits.now c.args.text.now c.in-Some.broken told in
    let (none, is) = none_is c.first.result c.is_none.result c.is_none.ensures in
    (λ yes. to (sym c.first.ensures ∙ none yes), λ portable. is (c.first.ensures ∙ from portable))
