use Rattle.std.proofs.Common.{arith, ap, ◌∙◌, rules, length}
use Rattle.lp_portable.specs.format.Spellings.{key_text}
use Rattle.lp_portable.specs.code.Walks.{either_key, keys_breaks}
use Rattle.lp_portable.proofs.Spelled.{next_after, some_next, keys_step}
use Rattle.lp_portable.proofs.names.more_breaks.Goals as goal

pub returns-in_default : goal.returns-in_default
returns-in_default c keys rest are len =
    let (more, left, n, same) = c.loop-left.invariant.told keys rest are len in
    let next = some_next key_text more c.loop-left.rest.now rest left (omega (arith, c.loop-left-test.true)) in
    absurd (c.in_default.ensures next.0 next.1 next.2)

pub loop-left-preserved : goal.loop-left-preserved
loop-left-preserved c = record {
  utf8 = search rules;
  told = λ keys rest are len.
      let (more, left, n, same) = c.loop-left.invariant.told keys rest are len in
      let t = c.in-Some.key.now in
      let next = next_after key_text more c.loop-left.rest.now rest c.in-Some.after.now t left (omega (arith, c.loop-left-test.true)) c.in-Some.ensures in
      let fewer = ap length next.1 in (
        next.0,
        next.2,
        omega (arith, n, fewer, c.loop-left-test.true),
        same ∙ ap (λ (keys : _). either_key c.loop-left.found (keys_breaks c.args.series_len keys)) next.1
            ∙ keys_step c.args.series_len c.loop-left.found t next.0 ∙ grind arith,
      );
}
