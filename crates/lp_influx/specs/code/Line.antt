-- Values of the code as values of the definitions: fields, tags, lines and their parts.
use Rattle.std.specs.Prelude.{ℕ, List, map, Option, Some, None}
use Rattle.std.specs.Borrow.{Bor}
use Rattle.lp_format.specs.format.{Pair, Point, Value, boolean, float, integer, string, unsigned}
use Rattle.lp_influx.specs.declared.lines.{InfluxValue.InfluxValue, InfluxTag.InfluxTag, InfluxField.InfluxField, InfluxLine.InfluxLine, Parts.Parts}
use Rattle.lp_influx.specs.declared.lines.InfluxValue.TheVariants.{Integer, Unsigned, Float, String, Boolean}
use Rattle.lp_influx.specs.format.InfluxLines as lines
use Rattle.lp_influx.specs.code.Read.{spelled_field, spelled_tag}

-- The value of the definitions that a value of the code is.
abbrev pub value_of : InfluxValue → Value (List ℕ)
value_of (Integer z) = integer z
value_of (Unsigned n) = unsigned n
value_of (Float literal) = float literal.items
value_of (String text) = string text.items
value_of (Boolean b) = boolean b

-- The tag of the definitions that a tag of the code is.
abbrev pub tag_of : InfluxTag → Pair (List ℕ) (List ℕ)
tag_of t = record { key = t.key.items; value = t.value.items }

-- The field of the definitions that a field of the code is.
abbrev pub field_of : InfluxField → Pair (List ℕ) (Value (List ℕ))
field_of f = record { key = f.key.items; value = value_of f.value }

-- The point that a line of the code is.
abbrev pub point_of : InfluxLine → Point
point_of p = record {
  measurement = p.measurement.items;
  tags = map tag_of p.tags.items;
  fields = map field_of p.fields.items;
  timestamp = p.timestamp;
}

-- The point that was read, if a line was read.
abbrev pub point_seen : Option InfluxLine → Option Point
point_seen None = None
point_seen (Some p) = Some (point_of p)

-- The parts of a line, as the definitions have them.
abbrev pub parts_of : Parts → lines.Parts
parts_of p = record {
  measurement = p.measurement.now;
  tags = map spelled_tag p.tags.items;
  series_len = p.series_len;
  fields = map spelled_field p.fields.items;
  timestamp = p.timestamp;
}

-- The keys of lent tags.
abbrev pub keys_in : List (Bor (List ℕ) × Bor (List ℕ)) → List (List ℕ)
keys_in tags = map (λ t. t.key) (map spelled_tag tags)
