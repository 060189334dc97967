-- Bytes that end a stretch of a line.
use Rattle.std.specs.Prelude.{ℕ, ◌==◌, ◌||◌, Bool}
use Rattle.lp_split.specs.declared.split.Stops.{Stops}

-- whether the byte ends a stretch
abbrev pub is_stop : Stops → ℕ → Bool
is_stop stops b = b == stops.0 || b == stops.1
