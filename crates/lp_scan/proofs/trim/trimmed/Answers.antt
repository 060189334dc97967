use Rattle.std.proofs.Common.{rules, arith}
use Rattle.std.proofs.lemmas.{Bool.cases_Bool, Grind.common_steps, List.drop_all, Str.IsCharBoundary-start, Str.IsCharBoundary-after_ascii}
use Rattle.lp_format.proofs.lemmas.line.TrimLemmas.{left_of, left_step, trimmed_is}
use Rattle.lp_scan.proofs.trim.trimmed.Goals as goal

pub loop-place-init : goal.loop-place-init
loop-place-init c = grind (arith, common_steps, rules, IsCharBoundary-start)

pub loop-place-preserved : goal.loop-place-preserved
loop-place-preserved c = record {
  left = grind (arith, common_steps, left_step, cases_Bool);
  boundary = grind (arith, common_steps, IsCharBoundary-after_ascii);
}

pub returns-in_default-2 : goal.returns-in_default-2
returns-in_default-2 c = grind (arith, common_steps, left_of, left_step, trimmed_is)

pub returns : goal.returns
returns c = grind (arith, common_steps, trimmed_is, drop_all)
