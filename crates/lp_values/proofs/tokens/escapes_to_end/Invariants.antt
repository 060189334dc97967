use Rattle.std.proofs.Common.{◌-◌, ◌<◌, ◌≡◌, length, slice_index, false}
use Rattle.lp_scan.specs.code.Tokens.{is_plain, stops_of, known_of}
use Rattle.lp_format.specs.format.Escapes.{EscapeScan}
use Rattle.lp_values.proofs.tokens.escapes_to_end.Given as goal

-- the walk is at the bare place `end`, where a run of plain bytes ends
abbrev pub invariant-loop-end : goal.invariant-loop-end
invariant-loop-end l = record {
  walked : EscapeScan (known_of l.kind) (stops_of l.kind) l.bytes l.end l.known;
  stopped : l.end < length l.bytes → is_plain (stops_of l.kind) (slice_index l.bytes l.end) ≡ false;
}

abbrev pub decreases-loop-end : goal.decreases-loop-end
decreases-loop-end l = length l.bytes - l.end
