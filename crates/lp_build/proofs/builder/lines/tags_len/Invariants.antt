use Rattle.std.proofs.Common.{◌≡◌, ◌+◌, ◌<◌, ◌^◌, length, drop}
use Rattle.std.specs.List.{flat_map}
use Rattle.lp_build.specs.code.WrittenAgain.{tag_text}
use Rattle.lp_build.proofs.builder.lines.tags_len.Given as goal

-- The length that is counted and the length of the tags that are left add up to the length of all tags.
abbrev pub invariant-loop-key : goal.invariant-loop-key
invariant-loop-key l =
    (l.len < 2 ^ 64)
    × (l.len + length (flat_map tag_text (drop l.key-index l.tags)) ≡ length (flat_map tag_text l.tags))
