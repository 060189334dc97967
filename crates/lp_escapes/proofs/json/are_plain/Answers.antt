use Rattle.std.proofs.Common.{arith}
use Rattle.lp_escapes.proofs.JsonTexts.{plain_front}
use Rattle.lp_escapes.proofs.json.are_plain.Goals as goal

pub returns : goal.returns
returns c = λ are. plain_front c.args.bytes.now c.loop-at.at (omega (arith, c.loop-at-test.false)) (c.loop-at.invariant are)
