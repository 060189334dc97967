use Rattle.std.proofs.Common.{◌≡◌, ◌≤◌, ℕ, List, drop, length, false, is_some, nat_cmp, bytes_eq}
use Rattle.std.specs.{BTreeMap.get_by, Cmp.Lexicographic.slice_cmp, List.list_any}
use Rattle.lp_portable.specs.{code.Walks.keys_in, format.Portable.has_repeats}
use Rattle.lp_portable.proofs.keys.has_many_repeats.Given as goal

-- The map has the keys after the keys that are left, and none of them is repeated.
abbrev pub invariant-loop-left : goal.invariant-loop-left
invariant-loop-left g l = record {
  within : l.left ≤ length l.items;
  has : (q : List ℕ) → is_some (get_by (λ k. slice_cmp nat_cmp q k.now) l.keys) ≡ list_any (bytes_eq q) (keys_in (drop l.left l.items));
  once : has_repeats (keys_in (drop l.left l.items)) ≡ false;
}

abbrev pub decreases-loop-left : goal.decreases-loop-left
decreases-loop-left g l = l.left
