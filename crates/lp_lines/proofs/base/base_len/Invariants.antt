use Rattle.std.proofs.Common.{◌≡◌, ◌^◌, ◌-◌, length, min, take, map}
use Rattle.lp_lines.specs.code.{Bases.base_text, Bases.in_order, Ranks.lent_of}
use Rattle.lp_lines.proofs.base.base_len.Given as goal

abbrev pub invariant-loop-tag : goal.invariant-loop-tag
invariant-loop-tag l = l.len ≡ min (length (base_text l.fn.measurement (in_order (map lent_of (take l.tag-index l.tags))))) (2 ^ 64 - 1)
