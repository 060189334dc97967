use Rattle.std.proofs.Common.{◌∙◌, refl, sym}
use Rattle.std.proofs.lemmas.Bool.{not-true}
use Rattle.influxdb_line_protocol.specs.code.SpelledParts.{known_in, spelling_of}
use Rattle.lp_values.proofs.lemmas.tokens.TokenLemmas.{read_plain}
use Rattle.lp_offsets.proofs.placed.reads_as_spelled.Goals as goal

pub returns : goal.returns
returns c = λ is.
    sym (read_plain (known_in c.args.text) (spelling_of c.args.text) (spelling_of c.args.text)
    (not-true _ (sym c.is_plain.ensures ∙ is)) refl)
