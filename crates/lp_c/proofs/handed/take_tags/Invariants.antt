use Rattle.std.proofs.Common.{◌≡◌, ◌≤◌, length, map, drop, ◌++◌}
use Rattle.std.specs.List.{AllByRecursion}
use Rattle.influxdb_line_protocol.specs.code.Parsed.{tag_of}
use Rattle.lp_c.specs.Handed.{IsTagIn, tag_in}
use Rattle.lp_c.proofs.handed.take_tags.Given as goal

-- if the parts that are left are tags, all are; those so far were pushed, and the first eight take no memory
abbrev pub invariant-loop-part : goal.invariant-loop-part
invariant-loop-part l =
    (AllByRecursion IsTagIn (drop l.part-index l.parts) → AllByRecursion IsTagIn l.parts)
    × (map tag_of l.tags.items ++ map (tag_in l.copies) (drop l.part-index l.parts) ≡ map (tag_in l.copies) l.parts)
    × (length l.tags.items ≡ l.part-index) × (8 ≤ l.tags.capacity)
