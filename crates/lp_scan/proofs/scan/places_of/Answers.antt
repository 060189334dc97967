use Rattle.std.proofs.{Common.eqb, Common.arith, lemmas.Simd.bitmask_splat, lemmas.Simd.length-chunk}
use lib.Lanes.{chunk}
use mir.Syntax.{w8}
use Rattle.lp_scan.proofs.scan.places_of.Goals as goal

pub returns : goal.returns
returns c =
    bitmask_splat w8 eqb (chunk c.args.at 64 c.args.text.now) 64 c.args.byte
    (length-chunk c.args.at 64 c.args.text.now c.requires) (omega arith)
