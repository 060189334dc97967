use Rattle.std.proofs.Common.{length}
use Rattle.lp_bench_streams.proofs.taken.Given as goal

-- each piece that is taken leaves fewer bytes
abbrev pub decreases-loop-count : goal.decreases-loop-count
decreases-loop-count l = length l.stream.bytes
