use Rattle.std.proofs.Common.{◌≡◌, map, string_bytes, take}
use Rattle.lp_lines.specs.code.Keys.{key_text, lent_tag}
use Rattle.lp_lines.proofs.key.written_key.Given as goal

abbrev pub invariant-loop-key : goal.invariant-loop-key
invariant-loop-key l = string_bytes l.text ≡ key_text l.fn.measurement (map lent_tag (take l.key-index l.tags))
