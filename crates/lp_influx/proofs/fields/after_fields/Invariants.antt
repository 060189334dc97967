use Rattle.std.proofs.Common.{◌≡◌, ◌≤◌, ◌+◌, length, false, if◌then◌else◌}
use Rattle.lp_influx.specs.format.InfluxFields.{a_byte, a_divider, after_fields}
use Rattle.lp_influx.specs.code.Read.{goes_on}
use Rattle.lp_influx.proofs.fields.after_fields.Given as goal

abbrev pub invariant-loop-left : goal.invariant-loop-left
invariant-loop-left l = record {
  same : goes_on l.scan l.left ≡ after_fields 0 0 false (if l.at_key then a_divider else a_byte) l.text;
  counted : l.scan.signs + l.scan.commas + length l.left ≤ length l.text;
}

abbrev pub decreases-loop-left : goal.decreases-loop-left
decreases-loop-left l = length l.left
