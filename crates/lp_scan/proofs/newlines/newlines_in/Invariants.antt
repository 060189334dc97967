use Rattle.std.proofs.Common.{◌≡◌, ◌+◌, ◌≤◌, length}
use Rattle.lp_format.specs.format.Bytes.{newlines_in}
use Rattle.lp_scan.proofs.newlines.newlines_in.Given as goal

-- `count` is the number of newlines before `rest`
abbrev pub invariant-loop-rest : goal.invariant-loop-rest
invariant-loop-rest l =
    (l.count + length l.rest ≤ length l.bytes) × (l.count + newlines_in l.rest ≡ newlines_in l.bytes)

abbrev pub decreases-loop-rest : goal.decreases-loop-rest
decreases-loop-rest l = length l.rest
