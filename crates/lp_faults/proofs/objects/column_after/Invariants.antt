use Rattle.std.proofs.Common.{◌≡◌, ◌+◌, ◌≤◌, drop}
use Rattle.lp_faults.specs.Objects.{column_after}
use Rattle.lp_faults.proofs.objects.column_after.Given as goal

abbrev pub invariant-loop-at : goal.invariant-loop-at
invariant-loop-at l = record {
  few : l.column ≤ l.at + 1;
  rest : column_after l.column (drop l.at l.bytes) ≡ column_after 1 l.bytes;
}
