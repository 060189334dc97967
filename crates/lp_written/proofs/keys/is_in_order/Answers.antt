use Rattle.std.proofs.Common.{◌≡◌, [], ◌∙◌, ap, sym, refl, is_lt, nat_cmp, not, false}
use Rattle.std.specs.{Cmp.Lexicographic.slice_cmp}
use Rattle.lp_format.specs.format.{a_tag_key, escapable}
use Rattle.lp_written.proofs.lemmas.parts.WrittenKeys.{not_less_than_nothing}
use Rattle.lp_written.proofs.keys.is_in_order.Goals as goal

pub returns : goal.returns
returns c b k before key =
    let (n, m, left, right, same) = c.loop-byte.invariant b k before key in
    let none : n ≡ [] = c.in_default.ensures.value (escapable a_tag_key) n refl left in
    let not_less : is_lt (slice_cmp nat_cmp m n) ≡ false = rw none (not_less_than_nothing m) in
    ap not (sym (same ∙ not_less))
