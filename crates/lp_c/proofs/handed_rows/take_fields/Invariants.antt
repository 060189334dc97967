use Rattle.std.proofs.Common.{◌≡◌, length, map, drop, ◌++◌}
use Rattle.std.specs.List.{AllByRecursion}
use Rattle.influxdb_line_protocol.specs.code.Parsed.{field_of}
use Rattle.influxdb_line_protocol.specs.format.Lines.{logical_field}
use Rattle.lp_c.specs.HandedRows.{IsFieldAt, field_there}
use Rattle.lp_c.proofs.handed_rows.take_fields.Given as goal

-- if the parts that are left are fields, all are; and those so far were pushed
abbrev pub invariant-loop-part : goal.invariant-loop-part
invariant-loop-part l =
    (AllByRecursion (IsFieldAt l.texts.portion.bytes.now l.texts.room.now) (drop l.part-index l.parts) → AllByRecursion (IsFieldAt l.texts.portion.bytes.now l.texts.room.now) l.parts)
    × (map logical_field (map field_of l.fields.items) ++ map (field_there l.texts.portion.bytes.now l.texts.room.now) (drop l.part-index l.parts)
    ≡ map (field_there l.texts.portion.bytes.now l.texts.room.now) l.parts)
    × (length l.fields.items ≡ l.part-index)
