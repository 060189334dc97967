use Rattle.std.proofs.Common.{◌≡◌, ◌-◌, ◌^◌, length, map, min, take}
use Rattle.lp_lines.specs.code.Keys.{key_text, lent_tag}
use Rattle.lp_lines.proofs.key.key_len.Given as goal

abbrev pub invariant-loop-key : goal.invariant-loop-key
invariant-loop-key l = l.len ≡ min (length (key_text l.fn.measurement (map lent_tag (take l.key-index l.tags)))) (2 ^ 64 - 1)
