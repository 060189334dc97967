use Rattle.std.proofs.Common.{◌≡◌, ◌+◌, ◌≤◌, ◌++◌, length}
use Rattle.lp_format.specs.format.Escapes.{escaped}
use Rattle.lp_scan.specs.code.Tokens.{known_of}
use Rattle.lp_build.proofs.builder.texts.put_escaped.Given as goal

-- The text that is written and the text that is left to write make the whole text, and there is room for the rest.
abbrev pub invariant-loop-plain : goal.invariant-loop-plain
invariant-loop-plain g l =
    let whole = escaped (known_of l.kind) l.text in
    let left = escaped (known_of l.kind) l.rest in
    (g.B.BufMut.bytes l.buf ++ left ≡ g.B.BufMut.bytes l.initial.buf ++ whole)
    × (g.B.BufMut.room l.initial.buf + length left ≤ g.B.BufMut.room l.buf + length whole)

abbrev pub decreases-loop-plain : goal.decreases-loop-plain
decreases-loop-plain g l = length l.rest
