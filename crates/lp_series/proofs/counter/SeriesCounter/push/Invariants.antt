use Rattle.std.proofs.Common.{◌≡◌, ℕ, List, ◌++◌}
use Rattle.influxdb_line_protocol.specs.format.Dialects.{Dialect}
use Rattle.influxdb_line_protocol.specs.format.Points.{Point}
use Rattle.influxdb_line_protocol.specs.code.Bounded.{most_given}
use Rattle.lp_series.specs.Texts.{HasCounted, HasCountedTo}
use Rattle.lp_series.proofs.counter.SeriesCounter.push.Given as goal

-- pieces of what was given, with the part, are counted
abbrev pub invariant-loop : goal.invariant-loop
invariant-loop l = record {
  most : l.self.counts.max_series ≡ l.fn.self.counts.max_series;
  counted : (dialect : Dialect) (limit : ℕ) (before : List Point) (others : ℕ) (given : List ℕ)
      → HasCounted l.fn.self dialect limit before others given
      → (left : List ℕ) × HasCountedTo l.self dialect limit before others (given ++ l.part) left;
}

-- fewer pieces can be given each time
abbrev pub decreases-loop : goal.decreases-loop
decreases-loop l = most_given l.self.stream
