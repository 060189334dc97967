use Rattle.std.proofs.Common.{◌≡◌, ◌≤◌, ◌-◌, ◌+◌, ◌==◌, not, length, take}
use Rattle.std.specs.List.{suffix_len}
use Rattle.influxdb_line_protocol.specs.format.Bytes.{space}
use Rattle.lp_conditions.proofs.times.word_start.Given as goal

-- no space comes from here on
abbrev pub invariant-loop-start : goal.invariant-loop-start
invariant-loop-start l = record {
  within : l.start ≤ length l.text;
  word : suffix_len (λ b. not (b == space)) l.text ≡ (length l.text - l.start) + suffix_len (λ b. not (b == space)) (take l.start l.text);
}

abbrev pub decreases-loop-start : goal.decreases-loop-start
decreases-loop-start l = l.start
