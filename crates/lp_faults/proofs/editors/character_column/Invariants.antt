use Rattle.std.proofs.Common.{◌≡◌, ◌+◌, ◌≤◌, drop}
use Rattle.lp_faults.specs.Editors.{character_column}
use Rattle.lp_faults.proofs.editors.character_column.Given as goal

abbrev pub invariant-loop-at : goal.invariant-loop-at
invariant-loop-at l = record {
  few : l.column ≤ l.at + 1;
  rest : character_column l.column (drop l.at l.bytes) ≡ character_column 1 l.bytes;
}
