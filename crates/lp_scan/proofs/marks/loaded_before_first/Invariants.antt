use Rattle.std.proofs.Common.{◌≡◌, ℕ, ◌-◌, ◌<◌, ◌≤◌, false, length, get_or}
use Rattle.lp_format.specs.format.Bytes.{is_one_of}
use Rattle.lp_scan.proofs.marks.loaded_before_first.Given as goal

-- no byte before `at` is a mark
abbrev pub invariant-loop-at : goal.invariant-loop-at
invariant-loop-at g l = (l.at ≤ length l.text) × ((k : ℕ) → k < l.at → is_one_of l.marks (get_or l.text k 0) ≡ false)

abbrev pub decreases-loop-at : goal.decreases-loop-at
decreases-loop-at g l = length l.text - l.at
