use Rattle.std.proofs.Common.{◌≡◌, ◌-◌, ◌≤◌, ◌++◌, take, drop, string_bytes, IsCharBoundary}
use Rattle.lp_format.specs.format.Escapes.{escaped}
use Rattle.lp_scan.specs.code.{known_of}
use Rattle.lp_lines.proofs.key.push_name.Given as goal

-- the bytes that are appended and the run that is not yet appended are the bytes before `at`, with their backslashes
abbrev pub invariant-loop-at : goal.invariant-loop-at
invariant-loop-at l = (l.start ≤ l.at) × IsCharBoundary l.fn.name l.start
    × (string_bytes l.text ++ take (l.at - l.start) (drop l.start l.fn.name)
    ≡ string_bytes l.initial.text ++ escaped (known_of l.kind) (take l.at l.fn.name))
