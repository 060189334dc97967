use Rattle.std.proofs.Common.{◌≡◌, fold, take}
use Rattle.lp_format.specs.format.{escaped}
use Rattle.lp_lines.specs.code.Keys.{hash_byte}
use Rattle.lp_scan.specs.code.{known_of}
use Rattle.lp_lines.proofs.key.hash_name.Given as goal

abbrev pub invariant-loop-byte : goal.invariant-loop-byte
invariant-loop-byte l = l.hash ≡ fold hash_byte l.fn.before (escaped (known_of l.kind) (take l.byte-index l.fn.name))
