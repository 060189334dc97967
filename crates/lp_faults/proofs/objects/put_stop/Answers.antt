use Rattle.std.proofs.Common.{◌≡◌, ◌+◌, ◌++◌, List, ℕ, ap, append_assoc, codes, string_bytes, ◌∙◌, arith}
use Rattle.std.proofs.lemmas.{Grind.common_steps, Result.on_ok_weaker}
use Rattle.influxdb_line_protocol.specs.format.Bytes.{newlines_in}
use Rattle.lp_faults.specs.Objects.{line_or_none, member}
use Rattle.lp_faults.proofs.objects.put_stop.Goals as goal

pub returns : goal.returns
returns c =
    let old = string_bytes c.args.faults.now in
    let line : c.in_ok-stop_line.stop_line ≡ line_or_none c.args.place.line + newlines_in c.args.bytes.now = grind (arith, common_steps) in
    on_ok_weaker c.put_after-2.result
    (λ put. put ∙ ap (λ (l : List ℕ). l ++ member (codes "stop_column") c.column_after-stop_column.result) c.in_ok-put_after.ensures
    ∙ append_assoc old _ _
    ∙ ap (λ (n : ℕ). old ++ (member (codes "stop_line") n ++ member (codes "stop_column") c.column_after-stop_column.result)) line
    ∙ ap (λ (n : ℕ). old ++ (member (codes "stop_line") (line_or_none c.args.place.line + newlines_in c.args.bytes.now) ++ member (codes "stop_column") n))
    c.column_after-stop_column.ensures)
    c.put_after-2.ensures
