use Rattle.std.proofs.Common.{◌≡◌, bytes_eq, length, map}
use Rattle.std.specs.List.{list_any}
use Rattle.lp_c.specs.SureRows.{key_in}
use Rattle.lp_c.proofs.sure_rows.has_key.Given as goal

abbrev pub invariant-loop-left : goal.invariant-loop-left
invariant-loop-left l = list_any (bytes_eq l.key) (map (key_in l.text) l.left) ≡ list_any (bytes_eq l.key) (map (key_in l.text) l.parts)

abbrev pub decreases-loop-left : goal.decreases-loop-left
decreases-loop-left l = length l.left
