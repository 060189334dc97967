use Rattle.influxdb_line_protocol.specs.code.Rules.{rules_of}
use Rattle.std.proofs.Common.{◌≡◌, ◌-◌, ◌≤◌, ℕ, List}
use Rattle.lp_cuts.specs.CutSteps.{IsWalkOf, IsWithin, PassesNone}
use Rattle.lp_cuts.specs.Windows.{HasText, IsWindow}
use Rattle.lp_cuts.proofs.cuts.walk_to.Given as goal

-- the walk has passed no cut at or after the place
abbrev pub invariant-loop-walk : goal.invariant-loop-walk
invariant-loop-walk g l = record {
  within : IsWithin l.window.len l.walk;
  window : IsWindow g.R.ReadAt.text l.window;
  over : (l.window.file.now ≡ l.initial.window.file.now) × (l.window.len ≡ l.initial.window.len);
  walk : (text : List ℕ) → HasText g.R.ReadAt.text l.initial.window text → IsWalkOf (rules_of l.fn.dialect) text l.initial.walk
      → PassesNone (rules_of l.fn.dialect) text l.place l.initial.walk.at
      → IsWalkOf (rules_of l.fn.dialect) text l.walk × PassesNone (rules_of l.fn.dialect) text l.place l.walk.at;
  further : l.initial.walk.at ≤ l.walk.at;
}

abbrev pub decreases-loop-walk : goal.decreases-loop-walk
decreases-loop-walk g l = l.place - l.walk.at
