use Rattle.std.proofs.Common.{◌∙◌, List, ℕ, Option, Some, ap₂, arith}
use Rattle.influxdb_line_protocol.specs.format.Points.{Pair}
use Rattle.influxdb_line_protocol.specs.format.Values.{Value, float, string}
use Rattle.lp_offsets.proofs.RoomLemmas.{grows_on, shows_on}
use Rattle.lp_offsets.specs.Offsets.{bytes_at}
use Rattle.lp_offsets.proofs.PlacedLemmas.{one_more_left}
use Rattle.lp_offsets.proofs.placed.place_field.Goals as goal

pub place_text-used-requires-in-String : goal.place_text-used-requires-in-String
place_text-used-requires-in-String c =
    let line = c.args.part.line in
    one_more_left line.text.now line.line.now line.end _ c.args.part.left _ line.lies (λ fits. grind arith) (rw c.in-String.is at c.requires.value)

pub returns-in-String-clause-grows : goal.returns-in-String-clause-grows
returns-in-String-clause-grows c = grows_on _ _ _ _ _ _ c.place_text-used.ensures.grows c.place_text-used-in-String.ensures.grows

pub returns-in-F64-clause-shows : goal.returns-in-F64-clause-shows
returns-in-F64-clause-shows c = λ enough r same.
    let there = c.place_literal-literal.ensures in
    let both : List ℕ → List ℕ → Option (Pair (List ℕ) (Value (List ℕ))) = λ k v. Some (record { key = k; value = float v }) in
    rw (c.part_of-in-F64.ensures, c.in-F64.is, there.copied) (ap₂ both (c.place_text-used.ensures.shows enough r same) (there.bytes ∙ c.as_str.ensures))

pub returns-in-String-clause-shows : goal.returns-in-String-clause-shows
returns-in-String-clause-shows c = λ enough r same.
    let key = c.place_text-used.result.0 in
    let next = c.place_text-used-in-String in
    let both : List ℕ → List ℕ → Option (Pair (List ℕ) (Value (List ℕ))) = λ k v. Some (record { key = k; value = string v }) in
    rw (c.part_of-in-String.ensures, c.in-String.is) (ap₂ both
    (shows_on (λ r. bytes_at c.args.part.line.text.now r key.copied key.span) _ _ _ _ _ next.ensures.grows c.place_text-used.ensures.shows enough r same)
    (next.ensures.shows enough r same))
