use Rattle.std.proofs.Common.{sym, refl}
use Rattle.lp_scan.specs.code.{known_of}
use Rattle.lp_values.proofs.lemmas.tokens.{TokenLemmas.walk_tells, WalkLemmas.walk_ends, WalkLemmas.walk_run, WalkLemmas.walk_start}
use Rattle.lp_values.proofs.tokens.escaped_end_of.Goals as goal

pub loop-end-init : goal.loop-end-init
loop-end-init c = walk_run _ _ _ 0 _ 0 (walk_start (known_of c.args.kind) _ _) c.requires.run

pub returns-then-next-end-clause-end : goal.returns-then-next-end-clause-end
returns-then-next-end-clause-end c =
    let load = c.escapes_in_load-next.ensures in
    sym (walk_ends _ _ _ _ _ load.walked (λ _. load.stops c.if-next-end.true))

pub returns-then-next-end-clause-told : goal.returns-then-next-end-clause-told
returns-then-next-end-clause-told c =
    let load = c.escapes_in_load-next.ensures in
    walk_tells c.args.kind _ _ _ _ _ c.requires.run c.requires.within c.requires.here
    (λ _. load.stops c.if-next-end.true) load.walked.counted refl

pub returns-clause-told : goal.returns-clause-told
returns-clause-told c =
    let tail = c.escapes_to_end-end.ensures in
    walk_tells c.args.kind _ _ _ _ _ c.requires.run c.requires.within c.requires.here tail.stops tail.len refl
