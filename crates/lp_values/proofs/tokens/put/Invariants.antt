use Rattle.std.proofs.Common.{◌≡◌, ◌≤◌, ◌-◌, ◌++◌, length, drop, string_bytes, IsCharBoundary, string_capacity}
use Rattle.lp_format.specs.format.{without_escapes}
use Rattle.lp_scan.specs.code.{known_of}
use Rattle.lp_values.proofs.tokens.put.Given as goal

-- the bytes that are written and the rest that is left are the whole, and there is room for it
abbrev pub invariant-loop-at : goal.invariant-loop-at
invariant-loop-at l = record {
  within : l.at ≤ length l.spelled;
  boundary : IsCharBoundary l.spelled l.at;
  whole : string_bytes l.to ++ without_escapes (known_of l.kind) (drop l.at l.spelled) ≡ without_escapes (known_of l.kind) l.spelled;
  room : length (without_escapes (known_of l.kind) l.spelled) ≤ string_capacity l.to;
}

abbrev pub decreases-loop-at : goal.decreases-loop-at
decreases-loop-at l = length l.spelled - l.at
