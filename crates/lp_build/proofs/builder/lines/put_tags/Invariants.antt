use Rattle.std.proofs.Common.{◌≡◌, ◌+◌, ◌≤◌, ◌++◌, length, drop}
use Rattle.std.specs.List.{flat_map}
use Rattle.lp_build.specs.code.WrittenAgain.{tag_text}
use Rattle.lp_build.proofs.builder.lines.put_tags.Given as goal

-- The text that is written and the text that is left to write make the whole text, and there is room for the rest.
abbrev pub invariant-loop-key : goal.invariant-loop-key
invariant-loop-key g l =
    let whole = flat_map tag_text l.tags in
    let left = flat_map tag_text (drop l.key-index l.tags) in
    (g.B.BufMut.bytes l.buf ++ left ≡ g.B.BufMut.bytes l.initial.buf ++ whole)
    × (g.B.BufMut.room l.initial.buf + length left ≤ g.B.BufMut.room l.buf + length whole)
