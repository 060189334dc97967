use Rattle.std.proofs.Common.{None, sym, arith}
use Rattle.std.proofs.lemmas.Str.Pattern.{strip_suffix_char}
use Rattle.lp_faults.proofs.ReturnLemmas.{not_stripped}
use Rattle.lp_faults.proofs.pieces.without_return.Goals as goal

pub returns-in-None : goal.returns-in-None
returns-in-None c =
    sym (not_stripped c.args.text.now (strip_suffix_char 13 c.args.text.now None c.in-None.ensures.cases (omega arith)))
