use Rattle.std.proofs.Common.{List, ℕ, Option, Some, ap₂}
use Rattle.influxdb_line_protocol.specs.format.Points.{Pair}
use Rattle.lp_offsets.proofs.RoomLemmas.{grows_on, shows_on}
use Rattle.lp_offsets.specs.Offsets.{bytes_at}
use Rattle.lp_offsets.proofs.placed.place_tag.Goals as goal

pub returns-clause-grows : goal.returns-clause-grows
returns-clause-grows c = grows_on _ _ _ _ _ _ c.place_text-used.ensures.grows c.place_text-used-2.ensures.grows

pub returns-clause-shows : goal.returns-clause-shows
returns-clause-shows c = λ enough r same.
    let key = c.place_text-used.result.0 in
    let next = c.place_text-used-2 in
    let both : List ℕ → List ℕ → Option (Pair (List ℕ) (List ℕ)) = λ k v. Some (record { key = k; value = v }) in
    rw c.part_of.ensures (ap₂ both
    (shows_on (λ r. bytes_at c.args.part.line.text.now r key.copied key.span) _ _ _ _ _ next.ensures.grows c.place_text-used.ensures.shows enough r same)
    (next.ensures.shows enough r same))
