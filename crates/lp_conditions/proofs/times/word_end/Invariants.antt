use Rattle.std.proofs.Common.{◌≡◌, ◌<◌, ◌≤◌, ◌-◌, ◌+◌, ◌==◌, length, slice_index, take}
use Rattle.std.specs.List.{suffix_len}
use Rattle.influxdb_line_protocol.specs.format.Bytes.{space}
use Rattle.lp_conditions.proofs.times.word_end.Given as goal

-- only spaces come from here on
abbrev pub invariant-loop-end : goal.invariant-loop-end
invariant-loop-end l = record {
  within : l.end ≤ length l.text;
  spaces : suffix_len (λ b. b == space) l.text ≡ (length l.text - l.end) + suffix_len (λ b. b == space) (take l.end l.text);
  at_space : l.end < length l.text → slice_index l.text l.end ≡ space;
}

abbrev pub decreases-loop-end : goal.decreases-loop-end
decreases-loop-end l = l.end
