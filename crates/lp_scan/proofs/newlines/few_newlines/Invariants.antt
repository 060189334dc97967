use Rattle.std.proofs.Common.{◌≡◌, ◌≤◌, take}
use Rattle.lp_format.specs.format.Bytes.{newlines_in}
use Rattle.lp_scan.proofs.newlines.few_newlines.Given as goal

-- `count` is the number of newlines before `at`
abbrev pub invariant-loop-at : goal.invariant-loop-at
invariant-loop-at l = (l.count ≤ l.at) × (l.count ≡ newlines_in (take l.at l.bytes))
