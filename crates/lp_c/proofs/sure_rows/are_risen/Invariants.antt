use Rattle.std.proofs.Common.{◌≡◌, [], ◌∷◌, length, map}
use Rattle.std.specs.List.{AllByRecursion}
use Rattle.lp_events.specs.code.OwnBases.{is_strictly_sorted}
use Rattle.lp_c.specs.SureRows.{SurePart, key_in}
use Rattle.lp_c.proofs.sure_rows.are_risen.Given as goal

-- if those that are left are sure, all are; and all keys rise if theirs do, after the last one
abbrev pub invariant-loop-left : goal.invariant-loop-left
invariant-loop-left l = record {
  all : AllByRecursion (SurePart l.text) l.left → AllByRecursion (SurePart l.text) l.parts;
  rise : is_strictly_sorted (l.last ∷ map (key_in l.text) l.left) ≡ is_strictly_sorted ([] ∷ map (key_in l.text) l.parts);
}

abbrev pub decreases-loop-left : goal.decreases-loop-left
decreases-loop-left l = length l.left
