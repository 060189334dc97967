-- Worked points of shards.
use Rattle.std.proofs.Common.{◌≡◌, false, true, List, [], ◌∷◌, None, codes, refl}
use Rattle.influxdb_line_protocol.specs.{code.Keys.hash_of, code.Keys.series_key, format.Escapes.escaped, format.Points.Point, format.Points.Tag}
use Rattle.lp_faults.specs.Relaying.{is_of_shard, shard_of}

-- a point with these tags
abbrev point : List Tag → Point
point tags = record { measurement = codes "m"; tags = tags; fields = []; timestamp = None }

-- the tags of `m,a=1,b=2` in either order
abbrev in_order : List Tag
in_order = record { key = codes "a"; value = codes "1" } ∷ record { key = codes "b"; value = codes "2" } ∷ []

abbrev out_of_order : List Tag
out_of_order = record { key = codes "b"; value = codes "2" } ∷ record { key = codes "a"; value = codes "1" } ∷ []

-- the hash of `m`, by FNV-1a 12638191598602154840, is 2 modulo 3
m_is_of_its_shard : is_of_shard (record { number = 2; count = 3 }) (point []) ≡ true
unfolding hash_of series_key escaped
m_is_of_its_shard = refl

-- so the point is of no other shard of 3
m_is_of_no_other : is_of_shard (record { number = 0; count = 3 }) (point []) ≡ false
unfolding hash_of series_key escaped
m_is_of_no_other = refl

-- the order of tags moves no point to another shard
one_series : shard_of 3 (point out_of_order) ≡ shard_of 3 (point in_order)
unfolding hash_of series_key escaped
one_series = refl

-- another series may be of another shard: the hash of `m,a=1` is 0 modulo 3
another_series : shard_of 3 (point (record { key = codes "a"; value = codes "1" } ∷ [])) ≡ 0
unfolding hash_of series_key escaped
another_series = refl
