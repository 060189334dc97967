use Rattle.std.proofs.Common.{List, ◌++◌, map, take}
use Rattle.influxdb_line_protocol.specs.code.Parsed.{tag_of}
use Rattle.influxdb_line_protocol.specs.format.Lines.{logical_tag}
use Rattle.influxdb_line_protocol.specs.format.Points.{Tag}
use Rattle.lp_series.specs.Counting.{HasTags}
use Rattle.lp_series.proofs.tables.count_tags.Given as goal

-- the tags so far are there
abbrev pub invariant-loop-key : goal.invariant-loop-key
invariant-loop-key l = (before : List Tag) → HasTags l.fn.tags before
    → HasTags l.tags (before ++ map logical_tag (map tag_of (take l.key-index l.of)))
