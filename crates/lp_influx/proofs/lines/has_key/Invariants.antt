use Rattle.std.proofs.Common.{◌≡◌, length, bytes_eq}
use Rattle.std.specs.List.{list_any}
use Rattle.lp_influx.specs.code.Line.{keys_in}
use Rattle.lp_influx.proofs.lines.has_key.Given as goal

abbrev pub invariant-loop-left : goal.invariant-loop-left
invariant-loop-left l = list_any (bytes_eq l.key) (keys_in l.tags) ≡ list_any (bytes_eq l.key) (keys_in l.left)

abbrev pub decreases-loop-left : goal.decreases-loop-left
decreases-loop-left l = length l.left
