-- Which bytes of a text are whole lines.
use Rattle.std.specs.Prelude.{◌≡◌, ◌≢◌, ℕ, ◌-◌, ◌<◌, ◌≤◌, List, drop, length, slice_index}
use Rattle.std.specs.List.{All}
use Rattle.influxdb_line_protocol.specs.format.Bytes.{newline}

-- so many of the first bytes of a text are its whole lines: they end with a newline, if there are any, and no newline comes after them
abbrev pub AreWhole : List ℕ → ℕ → Type 0
AreWhole text n = (n ≤ length text) × (0 < n → slice_index text (n - 1) ≡ newline) × All (λ b. b ≢ newline) (drop n text)
