use Rattle.std.proofs.Common.{◌≡◌, ◌+◌, ◌-◌, ◌<◌, ◌≤◌, drop, length, slice_index, true}
use Rattle.lp_scan.specs.code.Tokens.{is_mark, known_of, stops_of}
use Rattle.lp_written.specs.code.AsWritten.{written_len}
use Rattle.lp_written.proofs.tokens.written_len.Given as goal

-- the token goes on after what was passed, at a mark or at the end of the text
abbrev pub invariant-loop-end : goal.invariant-loop-end
invariant-loop-end l =
    record {
      within : l.end ≤ length l.bytes;
      mark : l.end < length l.bytes → is_mark l.kind (slice_index l.bytes l.end) ≡ true;
      passed : l.end + written_len (known_of l.kind) (stops_of l.kind) (drop l.end l.bytes) ≡ written_len
          (known_of l.kind) (stops_of l.kind) l.bytes;
    }

abbrev pub decreases-loop-end : goal.decreases-loop-end
decreases-loop-end l = length l.bytes - l.end
