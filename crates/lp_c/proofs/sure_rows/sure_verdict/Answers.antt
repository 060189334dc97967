use Rattle.std.proofs.Common.{◌≡◌, ◌∙◌, ap, arith, false, sym}
use Rattle.lp_portable.specs.code.Sure.{begins_own}
use Rattle.lp_c.specs.SureRows.{lies_in}
use Rattle.lp_c.proofs.SureRowLemmas.{line_noted}
use Rattle.lp_c.proofs.sure_rows.sure_verdict.Goals as goal

pub sure_bits-requires : goal.sure_bits-requires
sure_bits-requires c =
    let text = c.args.text.now in
    let row = c.args.row.now in
    let parts = c.in_ok-tags.ensures in
    let name = c.in_ok-name.ensures in
    let own : begins_own (lies_in text row.measurement) ≡ false =
    ap begins_own (sym name.1) ∙ (sym c.begins_own.ensures ∙ c.if-begins_own.false) in
    let noted = line_noted text c.args.parts.now c.in_ok-tags.tags.now c.in_ok-tags.fields.now row (c.requires (grind arith)) parts.tags parts.fields
    parts.all (c.are_sure.ensures (grind arith)) (c.are_sure-else-not-are_sure.ensures (grind arith)) name.0 own
    (omega (arith, c.if-row-gt29.false)) (omega (arith, c.if-row-gt4000.false)) in
    rw (c.in_ok-piece.ensures.1, c.time_of.ensures) noted
