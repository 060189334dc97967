use Rattle.std.proofs.{lemmas.List.take_rest, lemmas.Grind.common_steps, Common.arith}
use Rattle.lp_format.proofs.lemmas.values.ValueLemmas.{digits_end, negative_end}
use Rattle.lp_values.proofs.literals.integer_len.Goals as goal

pub returns-in-45-clause-boundary : goal.returns-in-45-clause-boundary
returns-in-45-clause-boundary c =
    let value = rw (take_rest, c.as_bytes.ensures.value) at c.negative_len.ensures.value in
    negative_end c.args.text.now c.negative_len.result c.utf8.text value

pub returns-in_default-clause-boundary : goal.returns-in_default-clause-boundary
returns-in_default-clause-boundary c = grind (arith, common_steps, digits_end)
