use Rattle.std.proofs.Common.{length}
use Rattle.lp_endings.proofs.summary.+show_kinds.Given as goal

abbrev pub decreases-show_kinds : goal.decreases-show_kinds
decreases-show_kinds g l = length l.kinds.now
