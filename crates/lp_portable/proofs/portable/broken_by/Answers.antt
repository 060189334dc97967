use Rattle.std.proofs.Common.{arith, ◌≡◌, ◌∙◌, ◌<◌, sym, ap, subst, length, Ok, List, ℕ}
use Rattle.std.proofs.lemmas.List.{length-map}
use Rattle.lp_format.specs.format.{Strict, answer}
use Rattle.lp_lines.specs.code.Parsed.{field_of, line_read, tag_of}
use Rattle.lp_lines.specs.code.Lookups.{some_items}
use Rattle.std.proofs.lemmas.Bool.{false≢true}
use Rattle.lp_format.specs.code.Light.{inline_fields, inline_tags}
use Rattle.lp_lines.proofs.lemmas.line.AnsweredLines.{light_line}
use Rattle.lp_portable.specs.format.Spellings.{IsSpelled}
use Rattle.lp_portable.proofs.{ByCode.told_is, ByCode.tags_are, Lines.line_is_read, LinesSpelled.line_spelled}
use Rattle.lp_portable.proofs.portable.broken_by.Goals as goal

pub returns-clause-value : goal.returns-clause-value
returns-clause-value c =
    let text = c.args.text.now in
    let read = c.args.read.now in
    let line = line_read read in
    let answered = c.requires.read in
    let (names, are, some) = line_spelled c.args.line.now line answered in
    let left = c.requires.piece.trimmed in
    let parts = c.parts_of-parts.ensures in
    let tags = ap length parts.tags ∙ sym (ap length (tags_are read) ∙ length-map (some_items read.series.tag_set) tag_of) in
    let fields = ap length parts.fields ∙ sym (length-map read.field_set.items field_of) in
    let told = c.name_breaks-names.ensures line names are tags fields (subst (λ (n : ℕ). 0 < n) (sym fields) some) in
    record {
      line = line;
      names = names;
      is_line = record {
        piece = c.requires.piece.piece;
        read =
            line_is_read text line (subst (λ (t : List ℕ). 0 < length t) left c.requires.piece.some)
            (subst (λ (t : List ℕ). answer Strict t ≡ Ok line) left answered);
      };
      are_names = subst (λ (t : List ℕ). IsSpelled t line names) left are;
      tells =
          told_is c.args.limits.now text read names c.parts_of-parts.result c.in_ok-repeats.repeats c.name_breaks-names.result c.broken_in.result parts
          c.in_ok-repeats.ensures.value told c.broken_in.ensures;
    }

pub returns-in_err-repeats-clause-no_memory : goal.returns-in_err-repeats-clause-no_memory
returns-in_err-repeats-clause-no_memory c light =
    let read = c.args.read.now in
    let few = light_line Strict c.args.line.now inline_tags inline_fields (line_read read) c.requires.read light in
    let tags = ap length (tags_are read) ∙ length-map (some_items read.series.tag_set) tag_of in
    let fields = length-map read.field_set.items field_of in
    absurd (false≢true (c.in_err-repeats.ensures.no_memory (omega (arith, few.0, tags)) (omega (arith, few.1, fields))))
