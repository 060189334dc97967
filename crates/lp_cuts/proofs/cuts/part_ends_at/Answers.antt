use Rattle.influxdb_line_protocol.specs.code.Rules.{rules_of}
use Rattle.std.proofs.Common.{ℕ, List, [], ◌∷◌, ◌≤◌, ◌*◌, ◌/◌, length, max, length-append, ap, sym, subst, ◌∙◌, arith}
use Rattle.lp_cuts.specs.Cuts.{IsCutFor}
use Rattle.lp_cuts.specs.Windows.{HasText}
use Rattle.lp_cuts.proofs.WalkLemmas.{walk_begins}
use Rattle.lp_cuts.proofs.PartEndLemmas.{EndsSoFar, ends_all, ends_more, ends_none, last_end, none_passed, start_is_cut}
use Rattle.lp_cuts.proofs.cuts.part_ends_at.Goals as goal

pub loop-k-init : goal.loop-k-init
loop-k-init g c = record {
  within = rw c.walk_at-walk.ensures (record { order = omega arith; counted = omega arith; given = omega arith });
  window = c.in-Ok.ensures.window;
  over = c.in-Ok.ensures.over;
  so_far = λ text known len. rw (c.walk_at-walk.ensures, c.new-ends.ensures.items) (
    walk_begins (rules_of c.args.dialect) text 0 (start_is_cut c.pieces_join.ensures.some (rules_of c.args.dialect) text),
    ends_none (rules_of c.args.dialect) text c.args.count,
  );
  found = omega (arith, ap (λ (l : List ℕ). length l) c.new-ends.ensures.items);
  few = omega (arith, ap (λ (l : List ℕ). length l) c.new-ends.ensures.items);
}

pub loop-k-preserved : goal.loop-k-preserved
loop-k-preserved g c =
    let inv = c.loop-k.invariant in
    let at = c.walk_to.new.walk.at in
    let pushed = c.in_ok-push_end.ensures in
    record {
      within = c.in_ok-walk_to.ensures.within;
      window = c.in_ok-walk_to.ensures.window;
      over = (c.in_ok-walk_to.ensures.over.0 ∙ inv.over.0, c.in_ok-walk_to.ensures.over.1 ∙ inv.over.1);
      so_far = λ text known len.
          let so_far = inv.so_far text known len in
          let here : HasText g.R.ReadAt.text c.loop-k.window text = record {
            known = ap g.R.ReadAt.text inv.over.0 ∙ known;
            len_is = len ∙ sym inv.over.1;
          } in
          let place = c.even_end.ensures ∙ ap (λ (l : ℕ). max 1 (c.loop-k.k * l / c.args.count)) (sym len) in
          let on = c.in_ok-walk_to.ensures.goes text here so_far.0
          (λ other cut_there there.
          none_passed (rules_of c.args.dialect) text c.args.count c.loop-k.k c.loop-k.ends.items c.loop-k.walk.at so_far.1 inv.found
          c.loop-k-test.true other cut_there (subst (λ (n : ℕ). n ≤ other) place there)) in (
            on.0,
            subst (λ (l : List ℕ). EndsSoFar (rules_of c.args.dialect) text c.args.count l at) (sym pushed)
                (ends_more (rules_of c.args.dialect) text c.args.count c.loop-k.k c.loop-k.ends.items c.loop-k.walk.at at so_far.1 inv.found
                (subst (λ (n : ℕ). IsCutFor (rules_of c.args.dialect) text n at) place on.1) c.in_ok-walk_to.ensures.further),
          );
      found = omega (arith, ap (λ (l : List ℕ). length l) pushed, length-append c.loop-k.ends.items (at ∷ []), inv.found);
      few = omega (
        arith,
        ap (λ (l : List ℕ). length l) pushed,
        length-append c.loop-k.ends.items (at ∷ []),
        inv.found,
        c.loop-k-test.true,
      );
    }

pub returns : goal.returns
returns g c = record {
  ends = λ text known len.
      let so_far = c.loop-k.invariant.so_far text known len in
      ends_all (rules_of c.args.dialect) text c.args.count c.loop-k.ends.items c.push_end-2.new.ends.items c.loop-k.walk.at so_far.1 so_far.0.is_cut.within
      (omega (arith, c.loop-k.invariant.found, c.loop-k.invariant.few))
      (last_end c.loop-k.ends.items c.push_end-2.new.ends.items (length text) c.args.len c.in_ok-push_end-2.ensures len);
}
