use Rattle.std.proofs.Common.{◌++◌, ◌+◌, ◌∙◌, ap, sym, subst, List, ℕ}
use Rattle.std.proofs.lemmas.List.{take_rest}
use Rattle.lp_split.specs.code.Bounded.{HeldWithin, Holds}
use Rattle.lp_split.proofs.lemmas.stream.HeldTexts.{skips_more, skips_to_end}
use Rattle.lp_split.proofs.stream.bounded.BoundedLineStream.push.Goals as goal

pub returns-in_ok-push-in-Ok-clause-ok : goal.returns-in_ok-push-in-Ok-clause-ok
returns-in_ok-push-in-Ok-clause-ok c = λ text h.
    let s = c.self.inside in
    let end = c.in-Ok.end in
    skips_to_end s.limit s.stream c.push-in-Ok.new.self s.skipped c.in-Within.track c.in-Within.counted c.with-counted.result
    c.args.part.now end c.in-Within.is
    c.in-Ok.ensures c.push-in-Ok.ensures.dialect
    (c.in_ok-push-in-Ok.ensures.ok ∙ ap (λ (t : List ℕ). s.stream.bytes ++ t) (take_rest c.args.part.now (end + 1)))
    c.with-counted.ensures.len c.with-counted.ensures.newlines text (subst (λ (v : HeldWithin). Holds v text) (sym c.self.view_is) h)

pub returns-in-Err-clause-ok : goal.returns-in-Err-clause-ok
returns-in-Err-clause-ok c = λ text h.
    let s = c.self.inside in
    skips_more s.limit s.stream s.skipped c.in-Within.track c.in-Err.track c.in-Within.counted c.with-counted-in-Err.result
    c.args.part.now c.in-Within.is c.in-Err.ensures c.with-counted-in-Err.ensures.len c.with-counted-in-Err.ensures.newlines text
    (subst (λ (v : HeldWithin). Holds v text) (sym c.self.view_is) h)
