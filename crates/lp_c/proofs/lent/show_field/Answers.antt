use Rattle.std.proofs.Common.{Option, Some, refl}
use Rattle.influxdb_line_protocol.specs.format.Points.{Pair}
use Rattle.influxdb_line_protocol.specs.format.Readings.{Text}
use Rattle.influxdb_line_protocol.specs.format.Values.{Value, string}
use Rattle.lp_c.proofs.FillLemmas.{puts_part}
use Rattle.lp_c.proofs.lent.show_field.Goals as goal
use Rattle.lp_c.specs.Telling.{field_filled}

pub returns-in-String : goal.returns-in-String
returns-in-String c =
    let both : Text → Text → Option (Pair Text (Value Text)) = λ key text. Some (record { key = key; value = string text }) in
    rw (c.show_kind-in-String.ensures, c.in-String.is)
    (puts_part field_filled both _ _ _ _ _ _ _ _ _ _ _ (λ r. refl) c.show_text-len.ensures c.show_text.ensures)
