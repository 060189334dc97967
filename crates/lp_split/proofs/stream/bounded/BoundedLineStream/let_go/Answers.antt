use Rattle.lp_split.specs.code.Rules.{rules_of}
use Rattle.std.proofs.Common.{[], arith}
use Rattle.lp_split.proofs.lemmas.stream.HeldTexts.{goes_within, no_end_within}
use Rattle.lp_split.proofs.stream.bounded.BoundedLineStream.let_go.Goals as goal

pub returns-in-Err-clause-holds : goal.returns-in-Err-clause-holds
returns-in-Err-clause-holds c =
    let tracked = c.in-Err.ensures.1 (rules_of c.dialect.result) [] c.new-first.ensures.track in
    grind (arith, goes_within)

pub returns-in_default-clause-few : goal.returns-in_default-clause-few
returns-in_default-clause-few c =
    let bytes = c.held-2.result.now in
    grind (arith, no_end_within)
