use Rattle.std.proofs.Common.{◌≡◌, length, map}
use Rattle.std.specs.List.{list_any}
use Rattle.lp_portable.specs.format.Portable.{is_long_after}
use Rattle.lp_influx.specs.code.Read.{spelled_field}
use Rattle.lp_influx.proofs.lines.has_long.Given as goal

abbrev pub invariant-loop-left : goal.invariant-loop-left
invariant-loop-left l = list_any (λ f. is_long_after l.series_len f.key) (map spelled_field l.fields)
    ≡ list_any (λ f. is_long_after l.series_len f.key) (map spelled_field l.left)

abbrev pub decreases-loop-left : goal.decreases-loop-left
decreases-loop-left l = length l.left
