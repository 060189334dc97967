-- How many bytes and lines a relay has read.
use Rattle.std.specs.Prelude.{ℕ, ◌+◌, ◌-◌, ◌^◌, ◌==◌, ◌&&◌, min, nat_lt, Bool, not, List, [], ◌∷◌, length, slice_index, if◌then◌else◌}
use Rattle.influxdb_line_protocol.specs.format.Bytes.{newline, newlines_in}
use Rattle.lp_conditions.specs.declared.kinds.Relayed.{Relayed}
use Rattle.lp_inputs.specs.declared.counted.Counts.{Counts}
use Rattle.lp_endings.specs.declared.summary.Totals.{Totals}

-- whether bytes end within a line
abbrev pub ends_in_line : List ℕ → Bool
ends_in_line bytes = nat_lt 0 (length bytes) && not (slice_index bytes (length bytes - 1) == newline)

-- one line more at the end of an input, where a read gives no bytes, if it ends within a line
abbrev pub line_at_end : Bool → List ℕ → ℕ
line_at_end is_in_line [] = if is_in_line then 1 else 0
line_at_end is_in_line (b ∷ bytes) = 0

-- counts, with bytes that were read then: each newline ends a line
abbrev pub counts_after : Counts → List ℕ → Counts
counts_after counts bytes = record {
  bytes = min (2 ^ 64 - 1) (counts.bytes + length bytes);
  lines = min (2 ^ 64 - 1) (counts.lines + newlines_in bytes + line_at_end counts.is_in_line bytes);
  is_in_line = ends_in_line bytes;
}

-- the same, if that is asked for
abbrev pub counts_if : Bool → Counts → List ℕ → Counts
counts_if is_asked counts bytes = if is_asked then counts_after counts bytes else counts

-- what was read, and the counts of its items
abbrev pub totals_of : Counts → Relayed → Totals
totals_of counts items = record { bytes = counts.bytes; lines = counts.lines; counts = items }
