use Rattle.std.proofs.Common.{◌≡◌, ◌≤◌, ◌*◌, ◌^◌, take}
use Rattle.std.specs.List.{sum_by}
use Rattle.lp_portable.specs.declared.broken.TheConstants.{CLAUSES}
use Rattle.lp_portable.specs.code.Bits.{bit_of}
use Rattle.lp_portable.proofs.broken.Broken.bits.Given as goal

-- The number is the sum of the bits of the clauses so far. For each clause it grows by at most the bit of the last clause.
abbrev pub invariant-loop-at : goal.invariant-loop-at
invariant-loop-at l = record {
  bits : l.bits ≡ sum_by (bit_of l.self) (take l.at CLAUSES.now);
  small : l.bits ≤ l.at * 2 ^ 32;
}
