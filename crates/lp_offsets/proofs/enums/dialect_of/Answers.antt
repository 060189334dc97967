use Rattle.std.proofs.Common.{◌≢◌, arith, ne_eqb, refl}
use Rattle.lp_offsets.specs.declared.enums.Dialect.TheVariants as dialect
use Rattle.lp_offsets.proofs.enums.dialect_of.Goals as goal

pub returns-in-None : goal.returns-in-None
returns-in-None c =
    let is_none = c.in-None.ensures.none.0 refl in
    let not_strict : c.args.number ≢ 1 = is_none dialect.Strict in
    let not_delimited : c.args.number ≢ 2 = is_none dialect.NewlineDelimited in
    grind (arith, ne_eqb, not_strict, not_delimited)
