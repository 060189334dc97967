use Rattle.std.proofs.Common.{◌≡◌, take, map, string_bytes}
use Rattle.lp_lines.specs.code.{Bases.base_text, Bases.in_order, Ranks.lent_of}
use Rattle.lp_lines.proofs.base.base_in_order.Given as goal

abbrev pub invariant-loop-tag : goal.invariant-loop-tag
invariant-loop-tag l = string_bytes l.base ≡ base_text l.fn.measurement (in_order (map lent_of (take l.tag-index l.tags)))
