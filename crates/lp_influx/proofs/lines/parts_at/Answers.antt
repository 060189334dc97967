use Rattle.std.proofs.Common.{map}
use Rattle.lp_influx.specs.code.Read.{spelled_field, spelled_tag}
use Rattle.lp_influx.proofs.LineParts.{no_fields, no_time, parts_are}
use Rattle.lp_influx.proofs.lines.parts_at.Goals as goal

pub returns-in_default-2 : goal.returns-in_default-2
returns-in_default-2 c =
    no_fields c.args.line.now c.in-Some.measurement.now c.in-Some.rest.now c.in_ok-tags.rest.now c.in-Some-strip_byte.after.now c.without_gap-start.result.now
    (map spelled_tag c.in_ok-tags.tags.items) c.gap_before.result c.in-Some.ensures.value c.in_ok-tags.ensures.value c.in-Some-strip_byte.ensures.value
    c.without_gap-start.ensures.value c.gap_before.ensures (rw c.in_default-2.is at c.in_ok-fields.ensures)

pub returns-in_default-influx_time : goal.returns-in_default-influx_time
returns-in_default-influx_time c =
    no_time c.args.line.now c.in-Some.measurement.now c.in-Some.rest.now c.in_ok-tags.rest.now c.in-Some-strip_byte.after.now c.without_gap-start.result.now
    (map spelled_tag c.in_ok-tags.tags.items) c.gap_before.result c.in-Some.ensures.value c.in_ok-tags.ensures.value c.in-Some-strip_byte.ensures.value
    c.without_gap-start.ensures.value c.gap_before.ensures (map spelled_field c.in-Some-2.fields.items) c.in-Some-2.end.now
    (rw c.in-Some-2.is at c.in_ok-fields.ensures) c.in_default-influx_time.ensures

pub returns : goal.returns
returns c =
    parts_are c.args.line.now c.in-Some.measurement.now c.in-Some.rest.now c.in_ok-tags.rest.now c.in-Some-strip_byte.after.now c.without_gap-start.result.now
    (map spelled_tag c.in_ok-tags.tags.items) c.gap_before.result c.in-Some.ensures.value c.in_ok-tags.ensures.value c.in-Some-strip_byte.ensures.value
    c.without_gap-start.ensures.value c.gap_before.ensures (map spelled_field c.in-Some-2.fields.items) c.in-Some-2.end.now c.in-Some-influx_time.timestamp
    (rw c.in-Some-2.is at c.in_ok-fields.ensures) c.in-Some-influx_time.ensures
