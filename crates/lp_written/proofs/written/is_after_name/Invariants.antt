use denote.Shadow.{shadow}
use denote.Text.{Utf8}
use Rattle.std.proofs.Common.{length, ◌↔◌}
use Rattle.lp_written.specs.code.AsWritten.{IsWrittenAfterName}
use Rattle.lp_written.proofs.written.is_after_name.Given as goal

-- The text that is left is written after a measurement exactly if the whole text is.
abbrev pub invariant-loop-tag : goal.invariant-loop-tag
invariant-loop-tag l = record { utf8_left : shadow (Utf8 l.left); same : IsWrittenAfterName l.left ↔ IsWrittenAfterName l.text }

abbrev pub decreases-loop-tag : goal.decreases-loop-tag
decreases-loop-tag l = length l.left
