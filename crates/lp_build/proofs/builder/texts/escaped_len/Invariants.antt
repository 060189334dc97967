use Rattle.std.proofs.Common.{◌≡◌, ◌+◌, ◌≤◌, length}
use Rattle.lp_format.specs.format.Escapes.{escaped}
use Rattle.lp_scan.specs.code.Tokens.{known_of}
use Rattle.lp_build.proofs.builder.texts.escaped_len.Given as goal

-- The length that is counted and the length of the text that is left, with its backslashes, add up to the length of the whole text with its
-- backslashes.
abbrev pub invariant-loop-after : goal.invariant-loop-after
invariant-loop-after l =
    (l.len + length l.rest ≤ length l.text + length l.text)
    × (l.len + length (escaped (known_of l.kind) l.rest) ≡ length (escaped (known_of l.kind) l.text) + length l.rest)

abbrev pub decreases-loop-after : goal.decreases-loop-after
decreases-loop-after l = length l.rest
