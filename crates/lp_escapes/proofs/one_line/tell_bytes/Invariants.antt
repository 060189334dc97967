use Rattle.std.proofs.Common.{◌≡◌, ◌++◌, string_bytes, take}
use Rattle.std.specs.List.{flat_map}
use Rattle.lp_escapes.specs.Told.{told_byte}
use Rattle.lp_escapes.proofs.one_line.tell_bytes.Given as goal

-- the bytes so far are told
abbrev pub invariant-loop-at : goal.invariant-loop-at
invariant-loop-at l = string_bytes l.line ≡ string_bytes l.initial.line ++ flat_map told_byte (take l.at l.bytes)
