use Rattle.std.proofs.Common.{arith}
use Rattle.std.proofs.lemmas.List.Sums.{sum_by_more}
use Rattle.lp_portable.specs.declared.broken.Clause.TheVariants as Clause
use Rattle.lp_portable.specs.declared.broken.TheConstants.{CLAUSES}
use Rattle.lp_portable.specs.code.Bits.{bit_of}
use Rattle.lp_portable.proofs.broken.Broken.bits.Goals as goal

pub loop-at-preserved : goal.loop-at-preserved
loop-at-preserved c =
    let was = c.loop-at in
    let more = sum_by_more (bit_of c.args.self.now) CLAUSES.now was.at Clause.LeadingBlank c.loop-at-test.true in
    record {
      bits = omega (arith, was.invariant.bits, more, c.bit-bits.ensures.value);
      small = omega (arith, was.invariant.small, c.bit-bits.ensures.within);
    }
