use Rattle.std.proofs.Common.{◌≡◌, List, ℕ}
use Rattle.std.specs.{BTreeMap.btree_map_len, BTreeMap.get_by_text, Option.option_or}
use Rattle.lp_conditions.proofs.field_types.put_all.Given as goal

abbrev pub invariant-loop-key : goal.invariant-loop-key
invariant-loop-key l = (q : List ℕ) → option_or (get_by_text l.left q) (get_by_text l.known q)
    ≡ option_or (get_by_text l.fn.fresh q) (get_by_text l.fn.known q)

abbrev pub decreases-loop-key : goal.decreases-loop-key
decreases-loop-key l = btree_map_len l.left
