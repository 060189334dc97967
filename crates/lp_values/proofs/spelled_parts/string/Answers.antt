use Rattle.std.proofs.{Common.◌∙◌, Common.arith, lemmas.Grind.common_steps}
use Rattle.lp_values.proofs.lemmas.fields.ReadingLemmas.{byte_parts}
use Rattle.lp_format.proofs.lemmas.values.ValueForms.{byte_missing, string_misses, string_open, string_reads}
use Rattle.lp_format.specs.format.Bytes.{quote}
use Rattle.lp_values.proofs.spelled_parts.string.Goals as goal

pub returns-in_default-clause-value : goal.returns-in_default-clause-value
returns-in_default-clause-value c = grind (arith, common_steps, byte_missing, string_misses)

pub returns-in_default-strip_byte-clause-value : goal.returns-in_default-strip_byte-clause-value
returns-in_default-strip_byte-clause-value c =
    let inner = c.in-Some.opened.now in
    let opened = (byte_parts quote c.args.text.now quote inner c.in-Some.ensures.value).1 in
    let unclosed = byte_missing quote c.take_token.result.1.now c.in_default-strip_byte.ensures.value in
    string_open c.args.text.now inner opened (λ rest e. unclosed rest (c.take_token.ensures.rest ∙ e))

pub returns-clause-value : goal.returns-clause-value
returns-clause-value c = grind (arith, common_steps, byte_parts, string_reads)
