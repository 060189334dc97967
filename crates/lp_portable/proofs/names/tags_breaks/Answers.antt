use Rattle.std.proofs.Common.{arith, ap, ◌∙◌, rules, length}
use Rattle.lp_portable.specs.format.Spellings.{tag_text}
use Rattle.lp_portable.specs.code.Walks.{either_tag, spelled_pair, tags_breaks}
use Rattle.lp_portable.proofs.Spelled.{next_after, some_next, tags_step}
use Rattle.lp_portable.proofs.names.tags_breaks.Goals as goal

pub returns-in_default : goal.returns-in_default
returns-in_default c tags rest are len =
    let (more, left, n, same) = c.loop-left.invariant.told tags rest are len in
    let next = some_next tag_text more c.loop-left.rest.now rest left (omega (arith, c.loop-left-test.true)) in
    absurd (c.in_default.ensures next.0 next.1 next.2)

pub loop-left-preserved : goal.loop-left-preserved
loop-left-preserved c = record {
  utf8 = search rules;
  told = λ tags rest are len.
      let (more, left, n, same) = c.loop-left.invariant.told tags rest are len in
      let t = spelled_pair (c.in-Some.key, c.in-Some.value) in
      let next = next_after tag_text more c.loop-left.rest.now rest c.in-Some.after.now t left (omega (arith, c.loop-left-test.true)) c.in-Some.ensures in
      let fewer = ap length next.1 in (
        next.0,
        next.2,
        omega (arith, n, fewer, c.loop-left-test.true),
        same ∙ ap (λ (tags : _). either_tag c.loop-left.found (tags_breaks tags)) next.1
            ∙ tags_step c.loop-left.found t next.0 ∙ grind arith,
      );
}
