use Rattle.std.proofs.Common.{◌≡◌, ℕ, ◌<◌, List, take, map, false, is_some, nat_cmp, bytes_eq}
use Rattle.std.specs.{BTreeMap.get_by, Cmp.Lexicographic.slice_cmp, List.list_any}
use Rattle.lp_events.specs.code.OwnBases.{keys_of}
use Rattle.lp_lines.specs.code.{Bases.is_repeated_at, Parsed.tag_of}
use Rattle.lp_lines.proofs.base.check_keys.Given as goal

abbrev pub invariant-loop-key : goal.invariant-loop-key
invariant-loop-key l = record {
  has : (q : List ℕ) → is_some (get_by (λ k. slice_cmp nat_cmp q k.now) l.keys) ≡ list_any (bytes_eq q)
      (take l.key-index (keys_of (map tag_of l.tags)));
  passed : (k : ℕ) → k < l.key-index → is_repeated_at (keys_of (map tag_of l.tags)) k ≡ false;
}
