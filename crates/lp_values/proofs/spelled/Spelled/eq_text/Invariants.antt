use Rattle.std.proofs.Common.{◌≡◌, ◌≤◌, ◌-◌, length, drop, bytes_eq}
use Rattle.lp_format.specs.format.{without_escapes}
use Rattle.lp_scan.specs.code.{known_of}
use Rattle.lp_values.proofs.spelled.Spelled.eq_text.Given as goal

-- the rest of the logical text equals the rest of the other text exactly if the two texts are equal
abbrev pub invariant-loop-at : goal.invariant-loop-at
invariant-loop-at l = record {
  within : l.at ≤ length l.spelling;
  same : bytes_eq (without_escapes (known_of l.self.token.kind) (drop l.at l.spelling)) l.left
      ≡ bytes_eq (without_escapes (known_of l.self.token.kind) l.spelling) l.fn.other;
}

abbrev pub decreases-loop-at : goal.decreases-loop-at
decreases-loop-at l = length l.spelling - l.at
