use Rattle.std.proofs.Common.{length}
use Rattle.lp_relay_program.proofs.words.+options_after.Given as goal

-- the words that are left
abbrev pub decreases-options_after : goal.decreases-options_after
decreases-options_after l = length l.words.now
