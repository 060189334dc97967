use Rattle.std.proofs.Common.{ℕ, take, arith, refl, subst}
use Rattle.lp_split.specs.declared.split.resumed.Region.TheVariants.{Plain}
use Rattle.lp_split.proofs.lemmas.split.SplitStretches.{bare_to, few_past, few_to, plain_bytes_past, plain_bytes_to}
use Rattle.lp_split.proofs.lemmas.split.TrackedPieces.{line_goes_on}
use Rattle.lp_split.proofs.split.tracked.plain_leap.Goals as goal
use Rattle.lp_format.{specs.format.Escapes.IsBareAfter, proofs.lemmas.split.SplitBare.is_escaped-nil}

pub load_ahead-ahead-requires-clause-starts_bare : goal.load_ahead-ahead-requires-clause-starts_bare
load_ahead-ahead-requires-clause-starts_bare c = is_escaped-nil

pub returns-then-ahead-eq0-clause-leads : goal.returns-then-ahead-eq0-clause-leads
returns-then-ahead-eq0-clause-leads c =
    let given = c.requires in
    let seen = c.load_ahead-ahead.ensures.seen in
    line_goes_on _ _ Plain (take c.load_ahead-ahead.result.end c.args.text.now) given.plain given.plain given.is_bare given.is_bare seen.is_bare
    (λ bytes is_bare h. plain_bytes_past bytes _ is_bare _ seen _ _ _ _ h c.if-ahead-eq0.true c.ones_below.ensures
    c.ones_below-then-ahead-eq0.ensures)

pub returns-then-ahead-eq0-clause-few : goal.returns-then-ahead-eq0-clause-few
returns-then-ahead-eq0-clause-few c =
    let few = few_past c.load_ahead-ahead.ensures.seen c.ones_below.ensures
    c.ones_below-then-ahead-eq0.ensures in
    (omega (arith, few.0), omega (arith, few.1))

pub returns-clause-leads : goal.returns-clause-leads
returns-clause-leads c =
    let given = c.requires in
    let seen = c.load_ahead-ahead.ensures.seen in
    line_goes_on _ _ Plain (take _ c.args.text.now) given.plain given.plain given.is_bare given.is_bare
    (subst (λ (k : ℕ). IsBareAfter (take k c.args.text.now)) (omega arith) (bare_to seen (omega arith) refl))
    (λ bytes is_bare h. plain_bytes_to bytes _ is_bare _ seen _ _ _ _ h _ (omega arith) refl c.ones_below-2.ensures c.ones_below-3.ensures)

pub returns-clause-few : goal.returns-clause-few
returns-clause-few c =
    let few = few_to c.load_ahead-ahead.ensures.seen (omega arith) refl
    c.ones_below-2.ensures c.ones_below-3.ensures in
    (omega (arith, few.0), omega (arith, few.1))
