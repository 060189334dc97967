use Rattle.std.proofs.Common.{List, ℕ, ap, take, ◌∙◌}
use Rattle.influxdb_line_protocol.specs.format.Dialects.{Strict}
use Rattle.lp_events.specs.code.Stops.{reading_stop}
use Rattle.lp_conditions.proofs.DifferingLemmas.{char_start_is}
use Rattle.lp_conditions.proofs.differing.part_after.Goals as goal

pub returns : goal.returns
returns c =
    let line = c.args.line.now in
    let b = c.floor_char_boundary.ensures in
    let is = char_start_is line c.args.at c.floor_char_boundary.result c.requires b.bound b.boundary b.nearest in
    ap (λ stop. stop.0) c.reading_stop.ensures ∙ ap (λ (t : List ℕ). (reading_stop Strict t).0) (c.split_at.ensures.front ∙ ap (λ (n : ℕ). take n line) is)
