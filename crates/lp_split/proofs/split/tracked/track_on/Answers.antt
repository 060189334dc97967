use Rattle.std.proofs.Common.{◌++◌, ◌+◌, take, append_assoc, arith}
use Rattle.std.proofs.lemmas.List.{take_all, take_more, take_rest}
use Rattle.lp_split.proofs.lemmas.split.TrackedPieces.{leads_on}
use Rattle.lp_split.proofs.split.tracked.track_on.Goals as goal

pub returns-in-None : goal.returns-in-None
returns-in-None c =
    let l = c.loop-at in
    let front = leads_on c.args.text.now _ l.at c.leap-len.result.0 _ _ _ (take_rest c.args.text.now l.at) l.invariant.leads
    c.leap-len.ensures.leads in
    (omega arith, c.in-None.ensures.leads.0, λ dialect bytes h. c.in-None.ensures.leads.1 dialect _ (front dialect bytes h))

pub loop-at-preserved : goal.loop-at-preserved
loop-at-preserved c =
    let text = c.args.text.now in
    let l = c.loop-at in
    let front = leads_on text _ l.at c.leap-len.result.0 _ _ _ (take_rest text l.at) l.invariant.leads c.leap-len.ensures.leads in
    record {
      within = omega arith;
      leads = λ dialect bytes h.
          rw (take_more text (l.at + c.leap-len.result.0) 0 (omega arith), ← append_assoc)
          (c.in-Some.ensures.leads dialect (bytes ++ take (l.at + c.leap-len.result.0) text) (front dialect bytes h));
      few = omega (arith, c.in-Some.ensures.few, c.leap-len.ensures.few, l.invariant.few);
    }

pub returns-then-at-text : goal.returns-then-at-text
returns-then-at-text c =
    let text = c.args.text.now in
    let l = c.loop-at in
    let front = leads_on text _ l.at c.leap-len.result.0 _ _ _ (take_rest text l.at) l.invariant.leads c.leap-len.ensures.leads in (
      omega (arith, c.leap-len.ensures.few, l.invariant.few),
      λ dialect bytes h. rw (take_all (l.at + c.leap-len.result.0) text (omega arith)) at (front dialect bytes h),
    )
