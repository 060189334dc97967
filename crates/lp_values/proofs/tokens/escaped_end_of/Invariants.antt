use Rattle.std.proofs.Common.{◌-◌, length}
use Rattle.lp_format.specs.format.Escapes.{EscapeScan}
use Rattle.lp_scan.specs.code.Tokens.{stops_of, known_of}
use Rattle.lp_values.proofs.tokens.escaped_end_of.Given as goal

-- the walk is at the bare place `end`
abbrev pub invariant-loop-end : goal.invariant-loop-end
invariant-loop-end l = EscapeScan (known_of l.kind) (stops_of l.kind) l.bytes l.end l.known

abbrev pub decreases-loop-end : goal.decreases-loop-end
decreases-loop-end l = length l.bytes - l.end
