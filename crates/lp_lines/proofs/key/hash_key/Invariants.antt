use Rattle.std.proofs.Common.{◌≡◌, map, take}
use Rattle.lp_lines.specs.code.Keys.{hash_of, key_text, lent_tag}
use Rattle.lp_lines.proofs.key.hash_key.Given as goal

abbrev pub invariant-loop-key : goal.invariant-loop-key
invariant-loop-key l = l.hash ≡ hash_of (key_text l.fn.measurement (map lent_tag (take l.key-index l.tags)))
