use Rattle.std.proofs.{Common.◌≡◌, Common.arith, lemmas.Grind.common_steps}
use Rattle.lp_values.specs.code.Outcomes.{kind_of}
use Rattle.lp_format.specs.format.Names.{spelled}
use Rattle.lp_format.proofs.lemmas.names.NameLemmas.{name_misses, name_fatal, name_reads}
use Rattle.lp_values.proofs.spelled_parts.name.Goals as goal

pub returns-then-is_empty-clause-value : goal.returns-then-is_empty-clause-value
returns-then-is_empty-clause-value c =
    let front : c.take_token.result.0.text.now ≡ spelled (kind_of c.args.kind)
    c.args.text.now = rw (← c.token.ensures.stops) c.take_token.ensures.text in
    name_misses (kind_of c.args.kind) c.args.text.now (rw (← front) (grind (arith, common_steps)))

pub returns-then-ends_in_backslash-clause-value : goal.returns-then-ends_in_backslash-clause-value
returns-then-ends_in_backslash-clause-value c =
    let front : c.take_token.result.0.text.now ≡ spelled (kind_of c.args.kind)
    c.args.text.now = rw (← c.token.ensures.stops) c.take_token.ensures.text in
    name_fatal (kind_of c.args.kind) c.args.text.now (rw (← front) (grind (arith, common_steps)))
    (rw (← front) (grind (arith, common_steps)))

pub returns-clause-value : goal.returns-clause-value
returns-clause-value c =
    let front : c.take_token.result.0.text.now ≡ spelled (kind_of c.args.kind)
    c.args.text.now = rw (← c.token.ensures.stops) c.take_token.ensures.text in
    let read = name_reads (kind_of c.args.kind) c.args.text.now (rw (← front) (grind (arith, common_steps)))
    (rw (← front) (grind (arith, common_steps))) in
    rw (c.take_token.ensures.kind, c.token.ensures.known, front, (rw c.token.ensures.stops at c.take_token.ensures.rest)) read
