use Rattle.std.proofs.Common.{rules, refl}
use Rattle.lp_split.specs.code.Rules.{rules_of}
use Rattle.lp_lines.proofs.lemmas.line.Filled.{line_answers}
use Rattle.lp_lines.proofs.line.fill.Goals as goal

pub returns-clause-value : goal.returns-clause-value
returns-clause-value c =
    let filled = line_answers _ _ refl (rules_of c.args.dialect) c.args.line.now c.tell_line.ensures.filled c.keep_tags.new.set
    c.keep_fields.new.fields c.in_default.not-Some c.if-refused.false c.keep_tags.ensures.tags c.keep_fields.ensures.fields
    c.keep_tags.ensures.some in
    search rules
