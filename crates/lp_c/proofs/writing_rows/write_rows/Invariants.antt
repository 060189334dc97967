use Rattle.std.proofs.Common.{◌≡◌, ◌≤◌, length, map, take}
use Rattle.std.specs.List.{AllByRecursion}
use Rattle.influxdb_line_protocol.specs.code.Rules.{rules_of}
use Rattle.influxdb_line_protocol.specs.format.Points.{IsPoint}
use Rattle.lp_c.specs.HandedRows.{point_there}
use Rattle.lp_c.specs.WritingRows.{AreLinesOf}
use Rattle.lp_c.proofs.writing_rows.write_rows.Given as goal

-- the lines so far are those of the rows so far, and they fit; and each says a point
abbrev pub invariant-loop-at : goal.invariant-loop-at
invariant-loop-at l = record {
  text : l.near.portion.bytes.now ≡ l.texts.portion.bytes.now;
  room : l.near.room.now ≡ l.texts.room.now;
  same : (l.writing.rules ≡ l.fn.writing.rules) × (l.writing.most ≡ l.fn.writing.most);
  fits : length l.writing.lines.items ≤ l.writing.most;
  lines : AreLinesOf (rules_of l.writing.rules) l.texts.portion.bytes.now l.texts.room.now l.parts (take l.at l.rows) l.writing.lines.items;
  points : AllByRecursion IsPoint (map (point_there l.texts.portion.bytes.now l.texts.room.now l.parts) (take l.at l.rows));
}
