use Rattle.influxdb_line_protocol.specs.code.Rules.{rules_of}
use Rattle.std.proofs.Common.{◌≡◌, ◌≤◌, ◌+◌, ◌-◌, ℕ, List, length, Some}
use Rattle.lp_cuts.specs.CutSteps.{IsWalkOf, IsWithin}
use Rattle.lp_cuts.specs.Windows.{IsWindow}
use Rattle.lp_cuts.proofs.PartEndLemmas.{EndsSoFar}
use Rattle.lp_cuts.proofs.cuts.part_ends_at.Given as goal

-- the ends of the parts before this one were found
abbrev pub invariant-loop-k : goal.invariant-loop-k
invariant-loop-k g l = record {
  within : IsWithin l.window.len l.walk;
  window : IsWindow g.R.ReadAt.text l.window;
  over : (l.window.file.now ≡ l.file) × (l.window.len ≡ l.len);
  so_far : (text : List ℕ) → g.R.ReadAt.text l.file ≡ Some text → length text ≡ l.len → IsWalkOf (rules_of l.fn.dialect) text l.walk
      × EndsSoFar (rules_of l.fn.dialect) text l.count l.ends.items l.walk.at;
  found : length l.ends.items + 1 ≡ l.k;
  few : length l.ends.items ≤ l.count - 1;
}
