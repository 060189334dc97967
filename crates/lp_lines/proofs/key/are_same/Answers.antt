use Rattle.std.proofs.Common.{sym, ◌∙◌}
use Rattle.lp_lines.proofs.lemmas.series.KeyParts.{names_same}
use Rattle.lp_lines.proofs.key.are_same.Goals as goal

pub returns : goal.returns
returns c =
    let same = names_same c.args.names.now c.args.others.now in
    (λ h. same.0 (sym c.eq.ensures ∙ h), λ h. c.eq.ensures ∙ same.1 h)
