use Rattle.std.proofs.Common.{refl, inr, subst, sym}
use Rattle.lp_portable.specs.code.Telling.{TellsBroken}
use Rattle.lp_portable.specs.format.Portable.{IsOneLine}
use Rattle.lp_c.proofs.verdicts.verdict_by_text.Goals as goal

pub returns-in-None-clause-bits : goal.returns-in-None-clause-bits
returns-in-None-clause-bits c =
    let there = c.in-Some.ensures.piece in
    let none = subst (TellsBroken c.args.limits.now c.in-Some.piece.now) c.in-None.is c.in_ok-broken.ensures.value in
    inr (λ broken told. none told.breaks.line (subst (λ t. IsOneLine t told.breaks.line) (sym there.1) told.breaks.is_line), refl)
