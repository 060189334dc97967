use Rattle.std.proofs.Common.{◌≡◌, ◌∙◌, ◌-◌, ◌+◌, true, false, bytes_eq, drop, arith, sym, ap, refl}
use Rattle.std.specs.List.{list_any}
use Rattle.lp_values.specs.code.Texts.{text_of}
use Rattle.lp_portable.specs.{code.Walks.keys_in, format.Portable.has_repeats}
use Rattle.lp_portable.proofs.Repeats.{has_more, keys_from, repeats_from}
use Rattle.lp_portable.proofs.keys.has_many_repeats.Goals as goal

pub returns-then-contains_key : goal.returns-then-contains_key
returns-then-contains_key g c =
    let items = c.args.items.now in
    let at = c.loop-left.left - 1 in
    let next : at + 1 ≡ c.loop-left.left = omega (arith, c.loop-left-test.true) in
    let from = keys_from items at c.index-items-left.result (omega (arith, c.loop-left.invariant.within, c.loop-left-test.true)) c.index-items-left.is in
    let found : list_any (bytes_eq (text_of c.index-items-left.result.0)) (keys_in (drop (at + 1) items)) ≡ true =
    rw next (sym (c.loop-left.invariant.has (text_of c.index-items-left.result.0)) ∙ grind arith) in
    sym (repeats_from items at (ap has_repeats from ∙ rw found refl))

pub loop-left-preserved : goal.loop-left-preserved
loop-left-preserved g c =
    let items = c.args.items.now in
    let at = c.loop-left.left - 1 in
    let key = text_of c.index-items-left.result.0 in
    let next : at + 1 ≡ c.loop-left.left = omega (arith, c.loop-left-test.true) in
    let from = keys_from items at c.index-items-left.result (omega (arith, c.loop-left.invariant.within, c.loop-left-test.true)) c.index-items-left.is in
    let none : list_any (bytes_eq key) (keys_in (drop (at + 1) items)) ≡ false =
    rw next (sym (c.loop-left.invariant.has key) ∙ grind arith) in
    record {
      within = omega (arith, c.loop-left.invariant.within);
      has = rw from (has_more c.loop-left.keys c.insert.new.self c.as_str-name.result tt key (keys_in (drop (at + 1) items)) (c.as_str-name.ensures.value ∙ ap (λ x. text_of x.0) (sym c.index-items-left.is))
          c.in_ok-insert.ensures.updates (rw next c.loop-left.invariant.has));
      once = ap has_repeats from ∙ rw (none, next) c.loop-left.invariant.once;
    }
