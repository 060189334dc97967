-- The reasons why a line was not read, with its fault as it is spelled.
use Rattle.std.specs.Prelude.{◌≡◌, Bool, false, Result, Ok, Err}
use Rattle.lp_format.specs.code.Light.{carries_no_text}
use Rattle.lp_format.specs.format.{Fault, Line}
use Rattle.lp_values.specs.code.SpelledParts.{spelled_fault}
use Rattle.lp_lines.specs.declared.{parsed.ParsedLine.ParsedLine, unread.Unread.Unread}
use Rattle.lp_lines.specs.declared.unread.Unread.TheVariants as unread
use Rattle.lp_lines.specs.code.Parsed.{line_read}

-- the reason why a line was not read is the fault of its answer; if memory was refused, the line can have any answer
abbrev pub IsUnread : Unread → Result Line Fault → Type 0
IsUnread (unread.Fault fault) answer = answer ≡ Err (spelled_fault fault)
IsUnread unread.OutOfMemory answer = Unit {0}

-- whether an error can be made of this reason without memory
abbrev pub needs_none : Unread → Bool
needs_none (unread.Fault fault) = carries_no_text (spelled_fault fault)
needs_none unread.OutOfMemory = false

-- the line that was filled in is the answer, or the reason why it was not read is the fault of the answer, or memory was refused
abbrev pub FillsSpelled : {X : Type 0} → ParsedLine → Result X Unread → Result Line Fault → Type 0
FillsSpelled parsed (Ok done) answer = answer ≡ Ok (line_read parsed)
FillsSpelled parsed (Err e) answer = IsUnread e answer
