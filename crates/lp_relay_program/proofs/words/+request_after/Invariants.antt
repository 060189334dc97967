use Rattle.std.proofs.Common.{length}
use Rattle.lp_relay_program.proofs.words.+request_after.Given as goal

-- the words that are left
abbrev pub decreases-request_after : goal.decreases-request_after
decreases-request_after l = length l.words.now
