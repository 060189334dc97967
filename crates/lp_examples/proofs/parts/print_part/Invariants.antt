use Rattle.std.proofs.Common.{length}
use Rattle.lp_examples.proofs.parts.print_part.Given as goal

-- each piece that is given leaves fewer bytes
abbrev pub decreases-loop-piece : goal.decreases-loop-piece
decreases-loop-piece g l = length l.stream.bytes
