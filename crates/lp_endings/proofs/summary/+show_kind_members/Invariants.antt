use Rattle.std.proofs.Common.{length}
use Rattle.lp_endings.proofs.summary.+show_kind_members.Given as goal

abbrev pub decreases-show_kind_members : goal.decreases-show_kind_members
decreases-show_kind_members g l = length l.kinds.now
