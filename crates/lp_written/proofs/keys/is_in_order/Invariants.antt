use Rattle.std.proofs.Common.{◌≡◌, ℕ, List, length, is_lt, nat_cmp}
use Rattle.std.specs.{Cmp.Lexicographic.slice_cmp}
use Rattle.lp_format.specs.format.{a_tag_key, spelling}
use Rattle.lp_written.proofs.keys.is_in_order.Given as goal

-- The texts that are left are ends of both keys, and the ends compare as the keys do.
abbrev pub invariant-loop-byte : goal.invariant-loop-byte
invariant-loop-byte l = (b k : List ℕ) → l.before ≡ spelling a_tag_key b → l.key ≡ spelling a_tag_key k
    → (c m : List ℕ) × (l.left ≡ spelling a_tag_key c) × (l.right ≡ spelling a_tag_key m)
    × (is_lt (slice_cmp nat_cmp k b) ≡ is_lt (slice_cmp nat_cmp m c))

abbrev pub decreases-loop-byte : goal.decreases-loop-byte
decreases-loop-byte l = length l.left
