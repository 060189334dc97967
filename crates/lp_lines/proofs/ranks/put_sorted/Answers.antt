use Rattle.std.proofs.Common.{arith}
use Rattle.lp_lines.proofs.lemmas.series.RankOrder.{ranked_sorted}
use Rattle.lp_lines.proofs.ranks.put_sorted.Goals as goal

pub returns : goal.returns
returns c = grind (arith, ranked_sorted c.rank_tags.new.out c.front_len.result c.args.tags.now c.front_len.ensures c.rank_tags.ensures)
