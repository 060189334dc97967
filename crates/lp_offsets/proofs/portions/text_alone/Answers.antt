use Rattle.std.proofs.Common.{arith, drop, subst, take}
use Rattle.lp_offsets.specs.Portions.{IsTextOf}
use Rattle.lp_offsets.proofs.portions.text_alone.Goals as goal

pub returns : goal.returns
returns c =
    subst (λ n. IsTextOf (take n (drop c.args.at c.args.bytes.now)) c.text_of.result) (omega arith) c.text_of.ensures
