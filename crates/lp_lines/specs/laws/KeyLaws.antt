-- The relation between keys and their series.
use Rattle.std.specs.Prelude.{◌≡◌, ◌↔◌, ℕ, true, List, map, bytes_eq}
use Rattle.std.specs.List.{filter, list_all}
use Rattle.lp_format.specs.format.{Tag, Text, Pair, logical_tag, a_measurement, is_admitted_name, is_admitted_tag}
use Rattle.lp_lines.specs.code.Keys.{series_key}
use Rattle.lp_lines.specs.laws.BaseLaws.{IsParsedSeries}

-- the tags with this key, in order
abbrev pub tags_with : List ℕ → List Tag → List Tag
tags_with key tags = filter (λ t. bytes_eq t.key key) tags

-- two series have one measurement, and for each tag key the same tags in the same order
pub record IsSameByKeys (measurement other : List ℕ) (tags others : List Tag) : Type 0 where
  pub measurement_is : measurement ≡ other
  pub tags_are : (key : List ℕ) → tags_with key tags ≡ tags_with key others

-- a text reads as this series; its tags are in some order in which the tags of each key stay in their own order
pub record ReadsAsSeries (text measurement : List ℕ) (tags : List Tag) : Type 0 where
  pub measurement_read : Text
  pub tags_read : List (Pair Text Text)
  pub parsed : IsParsedSeries text measurement_read tags_read
  pub same : IsSameByKeys measurement_read.bytes measurement (map logical_tag tags_read) tags

-- Two series have one key exactly if they have one measurement, and for each tag key the same tags in the same order, whatever their names
-- hold.
abbrev pub KeysTellSeries : Type 0
KeysTellSeries = (measurement other : List ℕ) (tags others : List Tag)
    → (series_key measurement tags ≡ series_key other others) ↔ IsSameByKeys measurement other tags others

-- The key of a series whose names are all admitted reads back as this series.
abbrev pub KeysReadBack : Type 0
KeysReadBack = (measurement : List ℕ) (tags : List Tag) → is_admitted_name a_measurement measurement ≡ true
    → list_all is_admitted_tag tags ≡ true → ReadsAsSeries (series_key measurement tags) measurement tags
