use Rattle.lp_lines.proofs.lemmas.series.RankOrder.{rank_is}
use Rattle.lp_lines.proofs.ranks.rank.Goals as goal

pub returns : goal.returns
returns c = rank_is c.args.text.now (λ k. (c.type_inv.text k).fits) c.from_be_bytes.result c.from_be_bytes.ensures
