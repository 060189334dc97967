use Rattle.std.proofs.Common.{◌≤◌, ◌<◌, length, subst, sym, arith}
use Rattle.std.proofs.lemmas.Result.{IfOk-weaker}
use Rattle.lp_relay.specs.Taking.{TakesItem}
use Rattle.lp_faults.specs.Relaying.{allowed}
use Rattle.lp_relay.specs.declared.taking.Taken.{Taken}
use Rattle.lp_relay.proofs.PortableLemmas.{nothing_added, something_added}
use Rattle.lp_relay.proofs.taking.allow.Goals as goal

pub returns-then-len-at : goal.returns-then-len-at
returns-then-len-at c item before piece here same takes =
    let s = c.args.settings.now in
    let after = c.args.batch.now.items in
    let carried = subst (λ (t : Taken). TakesItem t item before after) c.in-Carried.is takes in
    let short : length after ≤ c.args.at = omega (arith, c.if-len-at.true, c.len.ensures) in
    subst (λ (t : Taken). TakesItem t (allowed s.portable s.lines piece item) before after) (sym c.in-Carried.is)
    (nothing_added s.portable s.lines piece item before after c.args.at here short carried)

pub returns : goal.returns
returns c =
    let s = c.args.settings.now in
    let added = c.args.batch.now.items in
    let long : c.args.at < length added = omega (arith, c.if-len-at.false, c.len.ensures) in
    IfOk-weaker c.allow_added.result _ _
    (λ after looked item before piece here same takes.
    let carried = subst (λ (t : Taken). TakesItem t item before added) c.in-Carried.is takes in
    let goes = something_added c.in-Some.portable s.lines piece item before added c.args.at here long carried in
    rw (c.in-Some.is, goes) (looked item before piece here same carried)) c.allow_added.ensures
