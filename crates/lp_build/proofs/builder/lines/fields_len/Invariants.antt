use Rattle.std.proofs.Common.{◌≡◌, ◌+◌, ◌<◌, ◌^◌, length, drop}
use Rattle.lp_format.specs.format.Bytes.{space, comma}
use Rattle.lp_build.specs.code.WrittenAgain.{fields_text}
use Rattle.lp_build.proofs.builder.lines.fields_len.Given as goal

-- The length that is counted and the length of the fields that are left add up to the length of all fields.
abbrev pub invariant-loop-key : goal.invariant-loop-key
invariant-loop-key l =
    (l.len < 2 ^ 64)
    × (l.len + length (fields_text comma (drop l.key-index l.fields)) ≡ length (fields_text space l.fields))
