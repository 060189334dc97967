use Rattle.std.proofs.Common.{◌≡◌, map, string_bytes, take}
use Rattle.lp_words.specs.Plain.{texts}
use Rattle.lp_words.proofs.plain.words_in_order.Given as goal

-- the words so far are in the list
abbrev pub invariant-loop-at : goal.invariant-loop-at
invariant-loop-at l = texts l.list.items ≡ map string_bytes (take l.at l.words)
