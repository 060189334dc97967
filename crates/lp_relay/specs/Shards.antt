-- What shards tell of their points.
use Rattle.std.specs.Prelude.{◌≡◌, ◌↔◌, ◌<◌, ℕ, max, true}
use Rattle.influxdb_line_protocol.specs.format.Points.{Point}
use Rattle.lp_faults.specs.Relaying.{is_of_shard, key_of}
use Rattle.lp_conditions.specs.declared.settings.Shard.{Shard}

-- Of the shards of one count, each point is of exactly one.
abbrev pub PointsHaveOneShard : Type 0
PointsHaveOneShard = (count : ℕ) (p : Point) → (number : ℕ) × (number < max 1 count)
    × ((other : ℕ) → (is_of_shard (record { number = other; count = count }) p ≡ true) ↔ (other ≡ number))

-- Points whose series have one key are of the same shards.
abbrev pub SeriesHaveOneShard : Type 0
SeriesHaveOneShard = (shard : Shard) (p q : Point) → key_of p ≡ key_of q → is_of_shard shard p ≡ is_of_shard shard q
