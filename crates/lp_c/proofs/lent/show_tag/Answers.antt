use Rattle.std.proofs.Common.{Option, Some, refl}
use Rattle.influxdb_line_protocol.specs.format.Points.{Pair}
use Rattle.influxdb_line_protocol.specs.format.Readings.{Text}
use Rattle.lp_c.proofs.FillLemmas.{puts_part}
use Rattle.lp_c.proofs.lent.show_tag.Goals as goal
use Rattle.lp_c.specs.Telling.{tag_filled}

pub returns : goal.returns
returns c =
    let both : Text → Text → Option (Pair Text Text) = λ key value. Some (record { key = key; value = value }) in
    rw c.show_kind.ensures (puts_part tag_filled both _ _ _ _ _ _ _ _ _ _ _ (λ r. refl) c.show_text-len.ensures c.show_text.ensures)
