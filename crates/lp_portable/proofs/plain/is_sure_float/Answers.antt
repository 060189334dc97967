use Rattle.std.proofs.Common.{◌≡◌, length, ap, arith, false, codes}
use Rattle.std.specs.{List.list_any}
use Rattle.std.proofs.Math.Logic.{∥∥₁_elim}
use Rattle.std.proofs.Math.Bool.{Bool-set}
use Rattle.lp_values.specs.code.Texts.{literal_of}
use Rattle.lp_format.specs.format.{is_one_of}
use Rattle.lp_portable.proofs.ShortFloats.{literal_finite}
use Rattle.lp_portable.proofs.plain.is_sure_float.Goals as goal

pub returns-then-text-le300 : goal.returns-then-text-le300
returns-then-text-le300 c =
    let text = literal_of c.args.literal in
    let same = c.as_str-text.ensures in
    let bare : list_any (is_one_of (codes "eE")) text ≡ false = grind arith in
    ∥∥₁_elim c.args.literal.is_literal (Bool-set _ _) (λ is.
    let finite = literal_finite text is bare (omega (arith, c.if-text-le300.true, ap length same)) in
    rw (bare, finite) (grind arith))
