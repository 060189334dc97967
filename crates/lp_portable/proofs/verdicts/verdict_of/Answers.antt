use Rattle.std.proofs.Common.{Option, sym, subst, ap, ◌∙◌}
use Rattle.lp_portable.specs.declared.broken.{Broken.Broken}
use Rattle.lp_portable.specs.code.{Telling.TellsBroken, Verdicts.by_first}
use Rattle.lp_portable.proofs.{Once.portable_is, VerdictLemmas.line_told, VerdictLemmas.no_line_told}
use Rattle.lp_portable.proofs.verdicts.verdict_of.Goals as goal

pub returns-in_default-clause-value : goal.returns-in_default-clause-value
returns-in_default-clause-value c =
    sym (no_line_told c.args.to c.args.limits.now c.args.text.now
    (subst (λ (o : Option Broken). TellsBroken c.args.limits.now c.args.text.now o) c.in_default.is c.in_ok-broken.ensures.value))

pub returns-in-Some-first-clause-value : goal.returns-in-Some-first-clause-value
returns-in-Some-first-clause-value c =
    let told = subst (λ (o : Option Broken). TellsBroken c.args.limits.now c.args.text.now o) c.in-Some.is c.in_ok-broken.ensures.value in
    sym (line_told c.args.to c.args.limits.now c.args.text.now c.in-Some.broken told
    ∙ ap by_first (sym c.first.ensures ∙ c.in-Some-first.is))

pub returns-in-None-clause-value : goal.returns-in-None-clause-value
returns-in-None-clause-value c =
    let told = subst (λ (o : Option Broken). TellsBroken c.args.limits.now c.args.text.now o) c.in-Some.is c.in_ok-broken.ensures.value in
    sym (line_told c.args.to c.args.limits.now c.args.text.now c.in-Some.broken told
    ∙ ap by_first (sym c.first.ensures ∙ c.in-None.is))

pub returns-in-None-clause-tells : goal.returns-in-None-clause-tells
returns-in-None-clause-tells c =
    let told = subst (λ (o : Option Broken). TellsBroken c.args.limits.now c.args.text.now o) c.in-Some.is c.in_ok-broken.ensures.value in
    (portable_is c.args.to c.args.limits.now c.args.text.now c.in-Some.broken told).0 (sym c.first.ensures ∙ c.in-None.is)
