use Rattle.std.proofs.Common.{length}
use denote.Text.{Utf8}
use denote.Shadow.{shadow}
use Rattle.lp_events.specs.code.Stops.{next_pair}
use Rattle.lp_events.proofs.lemmas.stops.MostParts.{MostSoFar}
use Rattle.lp_events.proofs.stops.most_pairs.Given as goal

abbrev pub invariant-loop-after : goal.invariant-loop-after
invariant-loop-after l = shadow (Utf8 l.rest) × MostSoFar (next_pair l.kind) l.text l.count l.rest

abbrev pub decreases-loop-after : goal.decreases-loop-after
decreases-loop-after l = length l.rest
