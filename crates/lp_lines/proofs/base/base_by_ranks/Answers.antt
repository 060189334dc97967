use Rattle.std.proofs.Common.{◌≡◌, arith, length, map}
use Rattle.std.proofs.lemmas.{Bool.cases_Bool, Bool.false≢true}
use Rattle.lp_events.specs.code.OwnBases.{keys_of}
use Rattle.lp_lines.specs.code.{Bases.base_by_key, Bases.first_repeated}
use Rattle.lp_lines.specs.code.Parsed.{tag_of}
use Rattle.lp_lines.proofs.lemmas.series.RankOrder.{ranked_by_key, ranked_once}
use Rattle.lp_lines.proofs.base.base_by_ranks.Goals as goal
use Rattle.lp_lines.proofs.base.base_by_ranks.Goals.{then-not-ranks_rise+in_ok-check_keys, else-not-ranks_rise}

pub returns : goal.returns
unfolding base_by_key
returns c =
    let tags = c.args.tags.now in
    let sorted = c.in_ok-put_sorted.ensures in
    let once : first_repeated (keys_of (map tag_of tags)) ≡ length (map tag_of tags) = elim c.if-not-ranks_rise.branch [
      | then-not-ranks_rise+in_ok-check_keys w ↦ grind arith
      | else-not-ranks_rise w ↦ ranked_once c.put_sorted.new.out tags sorted (grind (arith, cases_Bool, false≢true))
    ] in
    let entries = ranked_by_key c.put_sorted.new.out tags sorted in
    grind arith
