use Rattle.std.proofs.Common.{arith}
use Rattle.lp_portable.specs.code.Sure.{broken_by_noted, counted}
use Rattle.lp_portable.proofs.PlainClauses.{noted_breaks}
use Rattle.lp_portable.proofs.sure.sure_bits.Goals as goal

pub returns : goal.returns
returns c =
    let limits = c.args.limits.now in
    let text = c.args.text.now in
    let n = counted c.args.tags c.args.fields c.args.timestamp in
    let bare = c.is_bare.ensures (grind arith) in
    (broken_by_noted limits text c.args.tags c.args.timestamp, noted_breaks limits text n bare c.requires, c.bits_by_noted.ensures)
