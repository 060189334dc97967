use Rattle.std.proofs.Common.{◌<◌, ◌≡◌, arith, refl, length, slice_index}
use Rattle.lp_format.specs.format.{quote}
use Rattle.std.proofs.lemmas.Grind.{common_steps}
use Rattle.lp_split.proofs.lemmas.split.SplitStretches.{few_past, few_to, plain_cut, plain_past, quote_opens, quote_stays}
use Rattle.lp_split.proofs.lemmas.split.SplitStretches.{quoted_closes, seen_after, stop_within}
use Rattle.lp_split.proofs.split.cut_by_stretches.Goals as goal

pub cut_after-requires-then-text-at-le-WIDE-clause-few : goal.cut_after-requires-then-text-at-le-WIDE-clause-few
cut_after-requires-then-text-at-le-WIDE-clause-few c =
    let was = c.loop-ahead.invariant in
    let from = was.seen.within in
    let few = few_past was.seen c.ones_below-equals.ensures c.ones_below-commas.ensures in
    (omega (arith, few.0, was.counts.0), omega (arith, few.1, was.counts.1))

pub cut_after-requires-then-text-at-le-WIDE-clause-ends_in : goal.cut_after-requires-then-text-at-le-WIDE-clause-ends_in
cut_after-requires-then-text-at-le-WIDE-clause-ends_in c =
    let was = c.loop-ahead.invariant in
    plain_past was.seen c.ones_below-equals.ensures c.ones_below-commas.ensures _ _ c.if-ahead-eq0.true was.plain

pub loop-ahead-preserved-then-ahead-eq0 : goal.loop-ahead-preserved-then-ahead-eq0
loop-ahead-preserved-then-ahead-eq0 c =
    let was = c.loop-ahead.invariant in
    let from = was.seen.within in
    let few = few_past was.seen c.ones_below-equals.ensures c.ones_below-commas.ensures in
    record {
      plain = plain_past was.seen c.ones_below-equals.ensures c.ones_below-commas.ensures _ _ c.if-ahead-eq0.true was.plain;
      seen = c.load_ahead-ahead.ensures.seen;
      counts = (omega (arith, few.0, was.counts.0), omega (arith, few.1, was.counts.1));
    }

pub bounds-text-end : goal.bounds-text-end
bounds-text-end c = stop_within c.loop-ahead.invariant.seen (omega arith) refl

pub returns-then-text-end-eq10 : goal.returns-then-text-end-eq10
returns-then-text-end-eq10 c =
    plain_cut c.loop-ahead.invariant.seen (omega arith) refl _ _ c.loop-ahead.invariant.plain c.if-text-end-eq10.true

pub quoted_end-requires : goal.quoted_end-requires
quoted_end-requires c = rw c.seen_past-ahead.ensures (seen_after c.loop-ahead.invariant.seen (omega arith) refl)

pub cut_after-requires-in_default-get-clause-few : goal.cut_after-requires-in_default-get-clause-few
cut_after-requires-in_default-get-clause-few c =
    let was = c.loop-ahead.invariant in
    let few = few_to was.seen (omega arith) refl c.ones_below-equals-in-loop-ahead.ensures c.ones_below-commas-in-loop-ahead.ensures in
    let past = c.quoted_end.ensures.ordered.0 in
    (omega (arith, few.0, was.counts.0), omega (arith, few.1, was.counts.1))

pub cut_after-requires-in_default-get-clause-ends_in : goal.cut_after-requires-in_default-get-clause-ends_in
cut_after-requires-in_default-get-clause-ends_in c =
    let was = c.loop-ahead.invariant in
    c.quoted_end.ensures.stays _ _
    (quote_opens was.seen (omega arith) refl c.ones_below-equals-in-loop-ahead.ensures c.ones_below-commas-in-loop-ahead.ensures _ _ was.plain
    c.if-text-end-eq10.false c.if-commas-equals.true)

pub loop-ahead-preserved-then-commas-equals : goal.loop-ahead-preserved-then-commas-equals
loop-ahead-preserved-then-commas-equals c =
    let text = c.args.text.now in
    let was = c.loop-ahead.invariant in
    let end = c.quoted_end.result.0 in
    let few = few_to was.seen (omega arith) refl c.ones_below-equals-in-loop-ahead.ensures c.ones_below-commas-in-loop-ahead.ensures in
    let past = c.quoted_end.ensures.ordered.0 in
    let inside : end < length text = grind (arith, common_steps) in
    let here : slice_index text end ≡ quote = grind (arith, common_steps) in
    record {
      plain = quoted_closes text end _ _ inside c.quoted_end.ensures.bare here
          (c.quoted_end.ensures.stays _ _
          (quote_opens was.seen (omega arith) refl c.ones_below-equals-in-loop-ahead.ensures c.ones_below-commas-in-loop-ahead.ensures
          c.loop-ahead.equals c.loop-ahead.commas was.plain c.if-text-end-eq10.false c.if-commas-equals.true));
      seen = c.quoted_end.ensures.later inside here;
      counts = (omega (arith, few.0, was.counts.0), omega (arith, few.1, was.counts.1));
    }

pub loop-ahead-preserved : goal.loop-ahead-preserved
loop-ahead-preserved c =
    let was = c.loop-ahead.invariant in
    let few = few_to was.seen (omega arith) refl c.ones_below-equals-in-loop-ahead.ensures c.ones_below-commas-in-loop-ahead.ensures in
    record {
      plain = quote_stays was.seen (omega arith) refl c.ones_below-equals-in-loop-ahead.ensures c.ones_below-commas-in-loop-ahead.ensures _ _
          was.plain c.if-text-end-eq10.false c.if-commas-equals.false;
      seen = rw c.seen_past-ahead.ensures (seen_after was.seen (omega arith) refl);
      counts = (omega (arith, few.0, was.counts.0), omega (arith, few.1, was.counts.1));
    }
