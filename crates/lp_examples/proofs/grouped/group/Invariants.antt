use Rattle.std.proofs.Common.{◌≡◌, ℕ, List, take}
use Rattle.std.specs.List.{filter}
use Rattle.lp_examples.specs.Grouped.{has_key, lines_at}
use Rattle.lp_examples.proofs.grouped.group.Given as goal

-- the groups have the lines so far
abbrev pub invariant-loop-line : goal.invariant-loop-line
invariant-loop-line l = (key : List ℕ) → lines_at l.groups key ≡ filter (has_key key) (take l.line-index l.lines)
