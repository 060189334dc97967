use Rattle.lp_lines.proofs.lemmas.series.RankOrder.{rank_is}
use Rattle.lp_lines.proofs.ranks.short_rank.Goals as goal

pub returns : goal.returns
returns c = rank_is c.args.text.now (λ k. (c.type_inv.text k).fits) c.from_be_bytes.result
    (rw (
      c.byte_at.ensures,
      c.byte_at-2.ensures,
      c.byte_at-3.ensures,
      c.byte_at-4.ensures,
      c.byte_at-5.ensures,
      c.byte_at-6.ensures,
      c.byte_at-7.ensures,
      c.byte_at-8.ensures,
    ) at c.from_be_bytes.ensures)
