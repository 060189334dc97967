use Rattle.std.proofs.Common.{◌≡◌, take, true}
use Rattle.std.specs.List.{All}
use Rattle.lp_escapes.proofs.JsonTexts.{IsPlain}
use Rattle.lp_escapes.proofs.json.are_plain.Given as goal

-- the bytes so far stand as they are, if all tests so far say so
abbrev pub invariant-loop-at : goal.invariant-loop-at
invariant-loop-at l = l.are ≡ true → All IsPlain (take l.at l.bytes)
