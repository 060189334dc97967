use Rattle.std.proofs.Common.{length}
use Rattle.lp_series_program.proofs.words.+task_after.Given as goal

-- the words that are left
abbrev pub decreases-task_after : goal.decreases-task_after
decreases-task_after l = length l.words.now
