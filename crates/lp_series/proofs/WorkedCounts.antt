-- What definitions of counts give, worked.
use Rattle.std.proofs.Common.{◌≡◌, ℕ, List, [], ◌∷◌, Some, None, true, false, codes, map, refl, pos}
use Rattle.std.specs.{List.count_by, List.flat_map, List.list_any}
use Rattle.influxdb_line_protocol.specs.format.Points.{Point, Tag}
use Rattle.influxdb_line_protocol.specs.format.Values.{float, integer}
use Rattle.lp_series.specs.Counting.{different, has_key, is_tag, key_of, kinds_at, times_of}
use Rattle.influxdb_line_protocol.specs.code.Keys.{series_key}
use Rattle.influxdb_line_protocol.specs.format.Escapes.{escaped}

-- a tag, by its key and its value
abbrev tag : List ℕ → List ℕ → Tag
tag k v = record { key = k; value = v }

-- the point of `cpu,host=a,az=b usage=1 5`
abbrev first : Point
first = record {
  measurement = codes "cpu";
  tags = tag (codes "host") (codes "a") ∷ tag (codes "az") (codes "b") ∷ [];
  fields = record { key = codes "usage"; value = float (codes "1") } ∷ [];
  timestamp = Some (pos 5);
}

-- the point of `cpu,az=b,host=a usage=2i,idle=3`, of the same series
abbrev second : Point
second = record {
  measurement = codes "cpu";
  tags = tag (codes "az") (codes "b") ∷ tag (codes "host") (codes "a") ∷ [];
  fields = record { key = codes "usage"; value = integer (pos 2) } ∷ record { key = codes "idle"; value = float (codes "3") } ∷ [];
  timestamp = None;
}

-- the point of `cpu,host=c idle=4 3`, of another series
abbrev third : Point
third = record {
  measurement = codes "cpu";
  tags = tag (codes "host") (codes "c") ∷ [];
  fields = record { key = codes "idle"; value = float (codes "4") } ∷ [];
  timestamp = Some (pos 3);
}

-- the three points
abbrev three : List Point
three = first ∷ second ∷ third ∷ []

-- two of them are of the first series
pub of_first : count_by (has_key (codes "cpu,az=b,host=a")) three ≡ 2
unfolding series_key escaped
of_first = refl

-- they are of two series
pub two_series : different (map key_of three) ≡ 2
unfolding series_key escaped
two_series = refl

-- two of them have a time
pub two_times : times_of three ≡ pos 5 ∷ pos 3 ∷ []
two_times = refl

-- the values of one field are a float and an integer
pub two_kinds : kinds_at (codes "usage") (flat_map (λ p. p.fields) three)
    ≡ Some (record { float = true; integer = true; unsigned = false; string = false; boolean = false })
two_kinds = refl

-- no point has such a field
pub no_kinds_there : kinds_at (codes "used") (flat_map (λ p. p.fields) three) ≡ None
no_kinds_there = refl

-- one tag is there, and another is not
pub tags_there : list_any (is_tag (codes "host") (codes "c")) (flat_map (λ p. p.tags) three) ≡ true
tags_there = refl

-- no value of one tag key is a value of another
pub no_tag_there : list_any (is_tag (codes "az") (codes "c")) (flat_map (λ p. p.tags) three) ≡ false
no_tag_there = refl
