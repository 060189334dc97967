use Rattle.std.proofs.Common.{◌≡◌, take, true}
use Rattle.std.specs.List.{flat_map}
use Rattle.lp_escapes.specs.Told.{told_byte}
use Rattle.lp_escapes.proofs.one_line.are_plain.Given as goal

-- the bytes so far are told as they are, if all tests so far say so
abbrev pub invariant-loop-at : goal.invariant-loop-at
invariant-loop-at l = l.are ≡ true → flat_map told_byte (take l.at l.bytes) ≡ take l.at l.bytes
