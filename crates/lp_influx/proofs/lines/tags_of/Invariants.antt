use Rattle.std.proofs.Common.{◌≡◌, ◌++◌, length, map}
use Rattle.lp_influx.specs.format.InfluxNames.{influx_names}
use Rattle.lp_influx.specs.code.{Line.tag_of, Read.spelled_tag}
use Rattle.lp_influx.proofs.lines.tags_of.Given as goal

abbrev pub invariant-loop-left : goal.invariant-loop-left
invariant-loop-left l = map tag_of l.made.items ++ map influx_names (map spelled_tag l.left) ≡ map influx_names (map spelled_tag l.tags)

abbrev pub decreases-loop-left : goal.decreases-loop-left
decreases-loop-left l = length l.left
