use Rattle.std.proofs.Common.{◌≡◌, ◌+◌, length, false}
use Rattle.lp_influx.specs.format.InfluxFields.{value_text}
use Rattle.lp_influx.proofs.values.value_len.Given as goal

abbrev pub invariant-loop-left : goal.invariant-loop-left
invariant-loop-left l = record {
  counted : l.len + length (value_text l.quoted l.escaped l.left) ≡ length (value_text false false l.text);
  within : l.len + length l.left ≡ length l.text;
}

abbrev pub decreases-loop-left : goal.decreases-loop-left
decreases-loop-left l = length l.left
