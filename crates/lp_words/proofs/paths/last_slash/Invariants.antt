use Rattle.std.proofs.Common.{◌≡◌, ◌≤◌, length}
use Rattle.std.specs.Path.{rfind_below}
use Rattle.lp_words.proofs.paths.last_slash.Given as goal

-- no slash is at the end that is looked at, or after it
abbrev pub invariant-loop-end : goal.invariant-loop-end
invariant-loop-end l = record {
  within : l.end ≤ length l.path;
  none : rfind_below 47 l.path (length l.path) ≡ rfind_below 47 l.path l.end;
}

abbrev pub decreases-loop-end : goal.decreases-loop-end
decreases-loop-end l = l.end
