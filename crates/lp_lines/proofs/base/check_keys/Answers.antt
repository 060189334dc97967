use Rattle.std.proofs.Common.{◌≡◌, map, sym, ◌∙◌, arith}
use borrow.Author.Count.{below_more}
use Rattle.lp_events.specs.code.OwnBases.{keys_of}
use Rattle.lp_lines.specs.code.{Bases.first_repeated, Parsed.tag_of}
use Rattle.lp_lines.proofs.lemmas.series.BaseLemmas.{first_repeated_is, has_more, key_is, length_keys, repeat_steps}
use Rattle.lp_lines.proofs.base.check_keys.Goals as goal

pub returns-then-contains_key : goal.returns-then-contains_key
returns-then-contains_key c =
    let again = c.loop-key.invariant.has c.as_str-name.result.now in
    let first : first_repeated (keys_of (map tag_of c.args.tags.now)) ≡ c.loop-key.key-index = grind (arith, key_is, length_keys, first_repeated_is) in
    grind (arith, repeat_steps)

pub loop-key-preserved : goal.loop-key-preserved
loop-key-preserved c =
    let tags = c.args.tags.now in
    let keys = keys_of (map tag_of tags) in
    let i = c.loop-key.key-index in
    let again = c.loop-key.invariant.has c.as_str-name.result.now in
    let here = key_is tags i _ c.loop-key-test.true c.loop-key-item.is in
    record {
      has = has_more c.loop-key.keys c.insert.new.self c.as_str-name.result tt keys i (omega (arith, length_keys tags))
          (c.as_str-name.ensures.value ∙ sym here) c.in_ok-insert.ensures.updates c.loop-key.invariant.has;
      passed = below_more _ i c.loop-key.invariant.passed (grind (arith));
    }
