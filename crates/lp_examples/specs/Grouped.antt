-- Lines by their series.
use Rattle.std.specs.Prelude.{ℕ, Bool, List, [], Option, Some, None, String, bytes_eq, map, option_map}
use Rattle.std.specs.{BTreeMap.BTreeMap, BTreeMap.get_by_text, Borrow.Bor, Global.Vec, Vec.vec_items}
use Rattle.influxdb_line_protocol.specs.code.{Keys.series_key, Parsed.tags_of, Texts.text_of}
use Rattle.influxdb_line_protocol.specs.format.Lines.{logical_tag, some_tags}
use Rattle.influxdb_line_protocol.specs.types.ParsedLine.{ParsedLine}

-- the key of the series of a line
abbrev pub key_of : ParsedLine → List ℕ
key_of l = series_key (text_of l.series.measurement) (map logical_tag (some_tags (option_map tags_of l.series.tag_set)))

-- whether a line is of the series with this key
abbrev pub has_key : List ℕ → ParsedLine → Bool
has_key key l = bytes_eq (key_of l) key

-- the lines of a group, and of none no lines
abbrev pub lines_in : Option (Vec (Bor ParsedLine)) → List ParsedLine
lines_in None = []
lines_in (Some group) = map (λ l. l.now) (vec_items group)

-- the lines that groups have at a key
abbrev pub lines_at : {Y : Type 0} → BTreeMap (String Y) (Vec (Bor ParsedLine)) → List ℕ → List ParsedLine
lines_at groups key = lines_in (get_by_text groups key)
