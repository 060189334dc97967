use Rattle.std.proofs.Common.{◌+◌, ◌-◌, ◌≤◌, length, take}
use Rattle.lp_split.specs.code.Tracks.{LeadsTo, most_counted}
use Rattle.lp_split.proofs.split.tracked.track_on.Given as goal

-- `track` is the track of the bytes before `at`
abbrev pub invariant-loop-at : goal.invariant-loop-at
invariant-loop-at l = record {
  within : l.at ≤ length l.text;
  leads : LeadsTo (take l.at l.text) l.fn.from l.track;
  few : most_counted l.track ≤ most_counted l.fn.from + l.at;
}

abbrev pub decreases-loop-at : goal.decreases-loop-at
decreases-loop-at l = length l.text - l.at
