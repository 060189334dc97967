use Rattle.std.proofs.Common.{◌≡◌, ◌+◌, ◌++◌, ◌∙◌, List, ap, arith, drop, length, map, refl, take}
use Rattle.std.proofs.Math.Seq.{take-append_seam}
use Rattle.std.proofs.lemmas.List.{length-take-le}
use Rattle.lp_c.proofs.FillLemmas.{shows_filled}
use Rattle.lp_c.proofs.lent.fill_line.Goals as goal
use Rattle.lp_c.specs.Crossing.{field_shown, tag_shown}
use Rattle.lp_c.specs.Telling.{filled_own, filled_parts, own_parts}
use Rattle.lp_c.specs.declared.views.Part.{Part}

-- the parts that got their copies are those of the line
pub returns-clause-shown : goal.returns-clause-shown
returns-clause-shown c = λ read shows.
    let line = c.args.line.now in
    let parts = c.args.parts.now in
    let new : List Part = c.fill_parts.new.parts in
    let rest : List Part = drop (line.tags + line.fields) parts in
    let count : line.tags + line.fields ≡ length new =
    omega (arith, c.fill_parts.auto.parts, length-take-le (line.tags + line.fields) parts c.requires.fits) in
    let own : take (line.tags + line.fields) (new ++ rest) ≡ new =
    ap (λ n. take n (new ++ rest)) count ∙ take-append_seam new rest in
    shows_filled read line _ c.args.room.now.bytes.now (filled_own c.args.room.now.bytes.now line parts) (new ++ rest) refl
    c.fill_view.ensures.shown
    (ap (map tag_shown) own ∙ (c.fill_parts.ensures.tags
    ∙ ap (λ r. map tag_shown (filled_parts r (own_parts line parts))) c.fill_view.ensures.left))
    (ap (map field_shown) own ∙ (c.fill_parts.ensures.fields
    ∙ ap (λ r. map field_shown (filled_parts r (own_parts line parts))) c.fill_view.ensures.left))
    shows
