use Rattle.std.proofs.Common.{◌≡◌, length}
use Rattle.std.specs.Str.Parse.{AllDigits, digits_value, digits_value_after}
use Rattle.lp_values.proofs.digits.value_by_fours.Given as goal

abbrev pub invariant-loop-left : goal.invariant-loop-left
invariant-loop-left l = record {
  digits : AllDigits 10 l.left;
  same : digits_value_after 10 l.value l.left ≡ digits_value 10 l.digits;
}

abbrev pub decreases-loop-left : goal.decreases-loop-left
decreases-loop-left l = length l.left
