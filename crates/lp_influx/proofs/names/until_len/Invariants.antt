use Rattle.std.proofs.Common.{◌≡◌, ◌+◌, length, false}
use Rattle.lp_influx.specs.format.InfluxNames.{until}
use Rattle.lp_influx.proofs.names.until_len.Given as goal

abbrev pub invariant-loop-left : goal.invariant-loop-left
invariant-loop-left l = record {
  counted : l.len + length (until l.ends l.escaped l.left) ≡ length (until l.ends false l.text);
  within : l.len + length l.left ≡ length l.text;
}

abbrev pub decreases-loop-left : goal.decreases-loop-left
decreases-loop-left l = length l.left
