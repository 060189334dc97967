use Rattle.std.proofs.Common.{◌≤◌, ◌-◌, length, drop}
use Rattle.lp_format.specs.format.Escapes.{without_escapes}
use Rattle.lp_scan.specs.code.Tokens.{known_of}
use Rattle.lp_values.proofs.lemmas.tokens.TokenLemmas.{IsPut}
use Rattle.lp_values.proofs.spelled.Spelled.put.Given as goal

-- the logical text is the bytes that were put and the rest that is left
abbrev pub invariant-loop-at : goal.invariant-loop-at
invariant-loop-at l = record {
  within : l.at ≤ length l.spelling;
  put : IsPut (without_escapes (known_of l.self.token.kind) l.spelling) (without_escapes (known_of l.self.token.kind) (drop l.at l.spelling)) l.fn.to l.to l.place;
}

abbrev pub decreases-loop-at : goal.decreases-loop-at
decreases-loop-at l = length l.spelling - l.at
