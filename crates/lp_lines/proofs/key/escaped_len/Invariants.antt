use Rattle.std.proofs.Common.{◌≡◌, ◌-◌, ◌^◌, length, min, take}
use Rattle.lp_format.specs.format.Escapes.{escaped}
use Rattle.lp_scan.specs.code.{known_of}
use Rattle.lp_lines.proofs.key.escaped_len.Given as goal

abbrev pub invariant-loop-byte : goal.invariant-loop-byte
invariant-loop-byte l = l.len ≡ min (length (escaped (known_of l.kind) (take l.byte-index l.fn.name))) (2 ^ 64 - 1)
