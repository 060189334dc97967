use Rattle.std.proofs.Common.{◌≡◌, ◌≤◌, ◌+◌, length, arith}
use Rattle.std.proofs.lemmas.{Grind.common_steps}
use Rattle.lp_format.specs.format.Values.{float_len}
use Rattle.lp_format.proofs.lemmas.literals.FloatLemmas.{float_boundary, integer_len_fits}
use Rattle.lp_values.proofs.literals.float_len.Goals as goal

pub returns-clause-boundary : goal.returns-clause-boundary
returns-clause-boundary c =
    let text = c.args.text.now in
    let len : c.args.whole + c.fraction_len-fraction.result + c.exponent_len.result ≡ float_len text = grind (arith, common_steps) in
    let fits : float_len text ≤ length text = omega (arith, len, integer_len_fits text) in
    rw len (float_boundary text c.utf8.text fits)
