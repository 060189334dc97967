use Rattle.std.proofs.Common.{◌≡◌, map, drop, ◌++◌}
use Rattle.std.specs.List.{AllByRecursion}
use Rattle.influxdb_line_protocol.specs.code.Parsed.{tag_of}
use Rattle.influxdb_line_protocol.specs.format.Lines.{logical_tag}
use Rattle.lp_c.specs.HandedRows.{IsTagAt, tag_there}
use Rattle.lp_c.proofs.handed_rows.take_tags.Given as goal

-- if the parts that are left are tags, all are; and those so far were pushed
abbrev pub invariant-loop-part : goal.invariant-loop-part
invariant-loop-part l =
    (AllByRecursion (IsTagAt l.texts.portion.bytes.now l.texts.room.now) (drop l.part-index l.parts) → AllByRecursion (IsTagAt l.texts.portion.bytes.now l.texts.room.now) l.parts)
    × (map logical_tag (map tag_of l.tags.items) ++ map (tag_there l.texts.portion.bytes.now l.texts.room.now) (drop l.part-index l.parts)
    ≡ map (tag_there l.texts.portion.bytes.now l.texts.room.now) l.parts)
