use Rattle.influxdb_line_protocol.specs.code.Rules.{rules_of}
use Rattle.std.proofs.Common.{arith, rules}
use Rattle.lp_cuts.proofs.WalkLemmas.{walk_last, walk_there}
use Rattle.lp_cuts.proofs.WindowLemmas.{same_text}
use Rattle.lp_cuts.proofs.cuts.walk_to.Goals as goal

pub returns-then-not-branch-clause-goes : goal.returns-then-not-branch-clause-goes
returns-then-not-branch-clause-goes g c = λ text has w passes.
    let inv = c.loop-walk.invariant in
    let jumped = c.in_ok-jump_to.ensures.goes text has w passes in
    let there = same_text g.R.ReadAt.text c.args.window.now c.jump_to.new.window text has c.in_ok-jump_to.ensures.over.0
    c.in_ok-jump_to.ensures.over.1 in
    let so_far = inv.walk text there jumped.0 jumped.1 in
    let here = same_text g.R.ReadAt.text c.jump_to.new.window c.loop-walk.window text there inv.over.0 inv.over.1 in
    walk_last (rules_of c.args.dialect) text c.args.place c.loop-walk.walk.at c.next_cut.new.walk c.in_ok-next_cut.field-0
    (search rules) (c.in_ok-next_cut.ensures.goes text here so_far.0) so_far.1

pub returns-clause-goes : goal.returns-clause-goes
returns-clause-goes g c = λ text has w passes.
    let jumped = c.in_ok-jump_to.ensures.goes text has w passes in
    let there = same_text g.R.ReadAt.text c.args.window.now c.jump_to.new.window text has c.in_ok-jump_to.ensures.over.0
    c.in_ok-jump_to.ensures.over.1 in
    let so_far = c.loop-walk.invariant.walk text there jumped.0 jumped.1 in
    walk_there (rules_of c.args.dialect) text c.args.place c.loop-walk.walk so_far.0 so_far.1 (omega (arith, c.loop-walk-test.false))
