use Rattle.std.proofs.Common.{◌≡◌, false, length, map}
use Rattle.std.specs.List.{AllByRecursion}
use Rattle.lp_portable.specs.format.Portable.{has_repeats}
use Rattle.lp_c.specs.SureRows.{SurePart, key_in}
use Rattle.lp_c.proofs.sure_rows.are_few.Given as goal

-- if those that are left are sure, all are; and no key is repeated if none of theirs is
abbrev pub invariant-loop-left : goal.invariant-loop-left
invariant-loop-left l = record {
  all : AllByRecursion (SurePart l.text) l.left → AllByRecursion (SurePart l.text) l.parts;
  once : has_repeats (map (key_in l.text) l.left) ≡ false → has_repeats (map (key_in l.text) l.parts) ≡ false;
}

abbrev pub decreases-loop-left : goal.decreases-loop-left
decreases-loop-left l = length l.left
