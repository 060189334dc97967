use Rattle.std.proofs.Common.{take}
use Rattle.std.specs.{Fmt.HasWritten, Fmt.IsPlainFormatter}
use Rattle.lp_words.specs.Refusals.{told_name}
use Rattle.lp_words.proofs.told.show_bytes.Given as goal

-- the bytes so far are told
abbrev pub invariant-loop-at : goal.invariant-loop-at
invariant-loop-at g l = IsPlainFormatter l.initial.f → HasWritten g.W.Write.write_str_gives l.initial.f (told_name (take l.at l.bytes)) l.f
