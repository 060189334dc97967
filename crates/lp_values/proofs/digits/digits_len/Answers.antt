use Rattle.std.proofs.Common.{arith, ◌∙◌, ◌<◌, take}
use Rattle.lp_format.specs.format.Values.{digits_len}
use Rattle.lp_values.proofs.lemmas.digits.DigitLemmas.{digits_within}
use Rattle.lp_values.proofs.digits.digits_len.Goals as goal

pub returns-then-len-lt-LANES-clause-value : goal.returns-then-len-lt-LANES-clause-value
returns-then-len-lt-LANES-clause-value c =
    let less : digits_len (take 16 c.args.bytes.now) < 16 = omega (arith, c.lanes_len-len.ensures) in
    c.lanes_len-len.ensures ∙ digits_within c.args.bytes.now 16 c.if-bytes-lt-LANES.false less
