use Rattle.std.proofs.Common.{◌≡◌, length, map, take}
use Rattle.lp_lines.specs.code.Ranks.{lent_rank, ranked}
use Rattle.lp_lines.proofs.ranks.rank_tags.Given as goal

-- the tags before `at` are put out with their ranks
abbrev pub invariant-loop-at : goal.invariant-loop-at
invariant-loop-at l = (map lent_rank (take l.at l.out) ≡ map (ranked l.len) (take l.at l.tags)) × (length l.out ≡ length l.tags)
