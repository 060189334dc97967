use Rattle.std.proofs.Common.{◌≡◌, ◌+◌, ◌≤◌, ◌++◌}
use Rattle.std.specs.Prelude.{replicate}
use Rattle.lp_vectors.proofs.own_values.ZerosFieldValue.fmt.Given as goal

abbrev pub invariant-loop-i : goal.invariant-loop-i
invariant-loop-i g l =
    (g.B.BufMut.bytes l.buf ≡ g.B.BufMut.bytes l.initial.buf ++ replicate l.i 48)
    × (g.B.BufMut.room l.initial.buf ≤ g.B.BufMut.room l.buf + l.i)
