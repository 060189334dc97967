use Rattle.std.proofs.Common.{arith, take_all, append-nil, map}
use Rattle.std.proofs.lemmas.{List.drop_all}
use Rattle.lp_format.specs.format.{logical_tag}
use Rattle.lp_lines.specs.code.Parsed.{tag_of}
use Rattle.lp_lines.proofs.lemmas.series.KeyTexts.{sorted_names_are}
use Rattle.lp_lines.proofs.key.sorted_names.Goals as goal

pub returns-clause-names : goal.returns-clause-names
returns-clause-names c =
    let sorted = sorted_names_are c.in_ok-names.names.items (map logical_tag (map tag_of c.args.tags.now)) c.in_ok-names.ensures.names in
    grind (arith, take_all, drop_all, append-nil)
