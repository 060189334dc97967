use Rattle.std.proofs.Common.{◌≡◌, ◌-◌, ◌≤◌, List, ℕ, ◌++◌, take, drop, IsCharBoundary}
use Rattle.std.specs.Fmt.{HasWritten, IsPlainFormatter}
use Rattle.lp_format.specs.{format.escaped, code.Shown.shown_escapes}
use Rattle.lp_scan.specs.code.{known_of}
use Rattle.lp_values.proofs.shown.show_escaped.Given as goal

-- the bytes that are written and the run that is not yet written are the bytes before `at`, with their backslashes
abbrev pub invariant-loop-at : goal.invariant-loop-at
invariant-loop-at g l =
    (l.start ≤ l.at) × IsCharBoundary l.fn.text l.start × (done : List ℕ)
    × (done ++ take (l.at - l.start) (drop l.start l.fn.text) ≡ escaped (shown_escapes (known_of l.kind)) (take l.at l.fn.text))
    × (IsPlainFormatter l.initial.f → HasWritten g.W.Write.write_str_gives l.initial.f done l.f)
