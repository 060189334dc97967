use Rattle.std.proofs.Common.{◌≡◌, length, map, max, take}
use Rattle.lp_format.specs.format.{logical_tag}
use Rattle.lp_lines.specs.code.{Keys.lent_tag, Parsed.tag_of}
use Rattle.lp_lines.proofs.key.names_in.Given as goal

abbrev pub invariant-loop-key : goal.invariant-loop-key
invariant-loop-key l = (map lent_tag l.names.items ≡ map logical_tag (map tag_of (take l.key-index l.tags)))
    × (length l.names.items ≡ l.key-index) × (l.names.capacity ≡ max 8 (length l.tags))
