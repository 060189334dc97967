use Rattle.std.proofs.{Common.arith, lemmas.List.take_rest}
use Rattle.lp_split.specs.code.Stops.{is_stop}
use Rattle.lp_split.proofs.lemmas.split.SplitSearches.{found_after, passed_start, search_goes_on, search_ends}
use Rattle.lp_split.proofs.split.bare_len.Goals as goal

pub loop-quiet-init : goal.loop-quiet-init
loop-quiet-init c = passed_start (is_stop c.args.stops) c.args.text.now

pub returns-in_default : goal.returns-in_default
returns-in_default c =
    search_ends c.args.stops c.requires (take_rest c.args.text.now c.loop-quiet.at) c.loop-quiet.invariant c.in_default.ensures

pub returns-then-text-at-ne92 : goal.returns-then-text-at-ne92
returns-then-text-at-ne92 c =
    (found_after c.args.stops c.requires (take_rest c.args.text.now c.loop-quiet.at) c.loop-quiet.invariant c.in-Some.found c.in-Some.ensures).0

pub loop-quiet-preserved : goal.loop-quiet-preserved
loop-quiet-preserved c =
    let rest = take_rest c.args.text.now c.loop-quiet.at in
    let after = found_after c.args.stops c.requires rest c.loop-quiet.invariant c.in-Some.found c.in-Some.ensures in
    search_goes_on c.args.stops c.requires rest c.loop-quiet.invariant c.in-Some.found c.in-Some.ensures (omega arith) (omega (arith, after.1))
