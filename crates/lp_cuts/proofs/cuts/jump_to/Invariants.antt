use Rattle.std.proofs.Common.{◌≡◌, ◌-◌, ◌≤◌, ℕ, List}
use Rattle.lp_cuts.specs.Windows.{HasText, IsWindow}
use Rattle.lp_cuts.proofs.JumpLemmas.{NoNewline}
use Rattle.lp_cuts.proofs.cuts.jump_to.Given as goal

-- no newline is at the byte before the place, or after it so far
abbrev pub invariant-loop-at : goal.invariant-loop-at
invariant-loop-at g l = record {
  low : l.place - 1 ≤ l.at;
  walk : l.walk ≡ l.initial.walk;
  window : IsWindow g.R.ReadAt.text l.window;
  over : (l.window.file.now ≡ l.initial.window.file.now) × (l.window.len ≡ l.initial.window.len);
  none : (text : List ℕ) → HasText g.R.ReadAt.text l.initial.window text → NoNewline text (l.place - 1) l.at;
}

abbrev pub decreases-loop-at : goal.decreases-loop-at
decreases-loop-at g l = l.window.len - l.at
