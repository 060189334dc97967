-- The order of two texts that are equal up to the end of one of them.
use Rattle.std.proofs.Common.{◌≡◌, ◌⊎◌, ℕ, zero, suc, ◌≤◌, List, [], ◌∷◌, drop, length, arith, is_lt, nat_cmp, nat_lt, inl, inr}
use Rattle.std.specs.Cmp.Lexicographic.{slice_cmp}

-- at the end of one of two texts, the shorter text is the lesser
pub order_end : (xs ys : List ℕ) (at : ℕ) → at ≤ length xs → at ≤ length ys → (length xs ≤ at) ⊎ (length ys ≤ at)
    → nat_lt (length xs) (length ys) ≡ is_lt (slice_cmp nat_cmp (drop at xs) (drop at ys))
order_end [] [] at within less ends = grind (arith)
order_end [] (y ∷ ys) at within less ends = grind (arith)
order_end (x ∷ xs) [] at within less ends = grind (arith)
order_end (x ∷ xs) (y ∷ ys) zero within less (inl end) = absurd (omega (arith, end))
order_end (x ∷ xs) (y ∷ ys) zero within less (inr end) = absurd (omega (arith, end))
order_end (x ∷ xs) (y ∷ ys) (suc at) within less (inl end) = grind (arith, order_end xs ys at)
order_end (x ∷ xs) (y ∷ ys) (suc at) within less (inr end) = grind (arith, order_end xs ys at)
