use Rattle.std.proofs.Common.{arith, refl, sym}
use Rattle.influxdb_line_protocol.specs.code.SpelledParts.{spelled_text}
use Rattle.lp_offsets.proofs.RoomLemmas.{copy_shown}
use Rattle.lp_offsets.proofs.placed.put_copy.Goals as goal

pub returns-clause-shows : goal.returns-clause-shows
returns-clause-shows c = λ enough r same.
    copy_shown _ _ c.args.used c.len-more.result _ _ c.args.room.now _ (spelled_text c.args.spelled).bytes _ r refl (sym c.len-more.ensures)
    c.len-more.ensures (omega (arith, c.saturating_add-all.ensures, c.if-room-all.false))
    (omega (arith, c.saturating_add-all.ensures, c.if-room-all.false)) c.put.ensures same
