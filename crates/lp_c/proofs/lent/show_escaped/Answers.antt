use Rattle.std.proofs.Common.{◌∙◌, refl, sym}
use Rattle.influxdb_line_protocol.specs.code.SpelledParts.{known_in, spelled_text, spelling_of}
use Rattle.lp_c.proofs.FillLemmas.{puts_view}
use Rattle.lp_c.proofs.TextLemmas.{copy_fits}
use Rattle.lp_c.proofs.lent.show_escaped.Goals as goal

pub slice_bounds-view-end : goal.slice_bounds-view-end
slice_bounds-view-end c =
    sym (copy_fits (known_in c.args.text) (spelling_of c.args.text) _ _ (c.as_bytes.ensures.value ∙ c.spelled.ensures) c.len.ensures)

pub returns : goal.returns
returns c =
    puts_view (spelled_text c.args.text) _ _ _ c.args.len _ c.in_default.ensures refl
    (copy_fits (known_in c.args.text) (spelling_of c.args.text) _ _ (c.as_bytes.ensures.value ∙ c.spelled.ensures) c.len.ensures ∙ c.len.ensures)
    c.put_copy.ensures.grows c.put_copy.ensures.counted c.put_copy.ensures.shows c.put_copy.ensures.takes
