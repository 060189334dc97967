use Rattle.std.proofs.Common.{◌≡◌, ◌+◌, ◌≤◌, ◌++◌, length, drop}
use Rattle.lp_format.specs.format.Bytes.{space}
use Rattle.lp_build.specs.code.WrittenAgain.{fields_text}
use Rattle.lp_build.proofs.builder.lines.put_fields.Given as goal

-- The text that is written and the text that is left to write make the whole text, and there is room for the rest.
abbrev pub invariant-loop-key : goal.invariant-loop-key
invariant-loop-key g l =
    let whole = fields_text space l.fields in
    let left = fields_text l.before (drop l.key-index l.fields) in
    (g.B.BufMut.bytes l.buf ++ left ≡ g.B.BufMut.bytes l.initial.buf ++ whole)
    × (g.B.BufMut.room l.initial.buf + length left ≤ g.B.BufMut.room l.buf + length whole)
