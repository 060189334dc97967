use Rattle.std.proofs.Common.{◌≤◌, length, take}
use Rattle.std.specs.List.{All}
use Rattle.lp_lines.specs.code.Ranks.{HasFront}
use Rattle.lp_lines.proofs.ranks.front_len.Given as goal

-- the keys so far begin with the first `len` bytes of the first key
abbrev pub invariant-loop-tag : goal.invariant-loop-tag
invariant-loop-tag l = (l.len ≤ length l.key) × All (HasFront (take l.len l.key)) (take l.tag-index l.tags)
