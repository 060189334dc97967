use Rattle.std.proofs.Common.{◌≡◌, length}
use Rattle.lp_portable.specs.code.Clauses.{first_of, is_broken_for}
use Rattle.lp_portable.proofs.broken.Broken.first_of.Given as goal

abbrev pub invariant-loop-clause : goal.invariant-loop-clause
invariant-loop-clause l = first_of (is_broken_for l.to l.self) l.clauses ≡ first_of (is_broken_for l.to l.self) l.left

abbrev pub decreases-loop-clause : goal.decreases-loop-clause
decreases-loop-clause l = length l.left
