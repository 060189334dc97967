use Rattle.std.proofs.Common.{◌∙◌, ap, ◌/◌, ◌^◌, ℕ, ◌==◌}
use Rattle.lp_format.specs.format.{is_bare_at, backslash}
use Rattle.lp_scan.proofs.lemmas.scan.BareMasks.{highest}
use Rattle.lp_scan.proofs.scan.escapes_next.Goals as goal

pub returns : goal.returns
returns c text at room bare is =
    ap (λ (m : ℕ). m / 2 ^ 63) (c.bare.ensures (λ b. b == backslash) text at room bare is is) ∙ highest (is_bare_at (λ b. b == backslash) text) at
