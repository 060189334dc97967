use Rattle.std.proofs.Common.{List, ◌++◌, map, take}
use Rattle.influxdb_line_protocol.specs.code.Parsed.{field_of}
use Rattle.influxdb_line_protocol.specs.format.Lines.{logical_field}
use Rattle.influxdb_line_protocol.specs.format.Points.{Field}
use Rattle.lp_series.specs.Counting.{HasKinds}
use Rattle.lp_series.proofs.kinds.count_fields.Given as goal

-- the kinds of the fields so far are counted
abbrev pub invariant-loop-key : goal.invariant-loop-key
invariant-loop-key l = (before : List Field) → HasKinds l.fn.kinds before
    → HasKinds l.kinds (before ++ map logical_field (map field_of (take l.key-index l.fields)))
