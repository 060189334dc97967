use Rattle.std.proofs.Common.{◌≡◌, ◌++◌, length, map}
use Rattle.lp_influx.specs.format.InfluxLines.{influx_logical}
use Rattle.lp_influx.specs.code.{Line.field_of, Read.spelled_field}
use Rattle.lp_influx.proofs.lines.fields_of.Given as goal

abbrev pub invariant-loop-left : goal.invariant-loop-left
invariant-loop-left l = map field_of l.made.items ++ map influx_logical (map spelled_field l.left) ≡ map influx_logical (map spelled_field l.fields)

abbrev pub decreases-loop-left : goal.decreases-loop-left
decreases-loop-left l = length l.left
