use Rattle.std.proofs.Common.{◌≡◌, ◌∙◌, ◌<◌, arith, length}
use Rattle.influxdb_line_protocol.specs.code.Rules.{rules_of}
use Rattle.lp_c.specs.HandedRows.{point_there}
use Rattle.lp_c.specs.WritingRows.{IsWrittenIn}
use Rattle.lp_c.proofs.WritingLemmas.{writes_more}
use Rattle.lp_c.proofs.writing_rows.write_rows.Goals as goal

pub loop-at-preserved : goal.loop-at-preserved
loop-at-preserved c =
    let was = c.loop-at in
    let step = was.invariant in
    let wrote = c.write_row in
    let next = c.in_default.ensures in
    let bytes = c.args.texts.portion.bytes.now in
    let room = c.args.texts.room.now in
    let parts = c.args.parts.now in
    let same_bytes : c.move_near.new.texts.portion.bytes.now ≡ bytes = c.move_near.ensures.text ∙ step.text in
    let same_room : c.move_near.new.texts.room.now ≡ room = c.move_near.ensures.room ∙ step.room in
    let here : was.at < length c.args.rows.now = omega (arith, c.loop-at-test.true) in
    let more = writes_more (IsWrittenIn (rules_of was.writing.rules) bytes room parts) (point_there bytes room parts) c.args.rows.now was.at _
    was.writing.lines.items wrote.new.writing.lines.items here (rw (same_bytes, same_room) at next.is) (rw (same_bytes, same_room) at next.point)
    (rw (same_bytes, same_room) at next.put) step.lines step.points in
    record {
      text = same_bytes;
      room = same_room;
      same = (wrote.ensures.same.0 ∙ step.same.0, wrote.ensures.same.1 ∙ step.same.1);
      fits = wrote.ensures.fits;
      lines = rw wrote.ensures.same.0 more.0;
      points = more.1;
    }
