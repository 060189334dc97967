use denote.Shadow.{shadow}
use denote.Text.{Utf8}
use Rattle.std.proofs.Common.{length, ◌↔◌}
use Rattle.lp_written.specs.code.AsWritten.{IsWrittenAfterField}
use Rattle.lp_written.proofs.written.is_after_field.Given as goal

-- The text that is left is written after a field exactly if the whole text is.
abbrev pub invariant-loop-field : goal.invariant-loop-field
invariant-loop-field l = record { utf8_left : shadow (Utf8 l.left); same : IsWrittenAfterField l.left ↔ IsWrittenAfterField l.text }

abbrev pub decreases-loop-field : goal.decreases-loop-field
decreases-loop-field l = length l.left
