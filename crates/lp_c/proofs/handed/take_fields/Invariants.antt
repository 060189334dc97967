use Rattle.std.proofs.Common.{◌≡◌, ◌≤◌, length, map, drop, ◌++◌}
use Rattle.std.specs.List.{AllByRecursion}
use Rattle.influxdb_line_protocol.specs.code.Parsed.{field_of}
use Rattle.lp_c.specs.Handed.{IsFieldIn, field_in}
use Rattle.lp_c.proofs.handed.take_fields.Given as goal

-- if the parts that are left are fields, all are; those so far were pushed, and the first four take no memory
abbrev pub invariant-loop-part : goal.invariant-loop-part
invariant-loop-part l =
    (AllByRecursion IsFieldIn (drop l.part-index l.parts) → AllByRecursion IsFieldIn l.parts)
    × (map field_of l.fields.items ++ map (field_in l.copies) (drop l.part-index l.parts) ≡ map (field_in l.copies) l.parts)
    × (length l.fields.items ≡ l.part-index) × (4 ≤ l.fields.capacity)
