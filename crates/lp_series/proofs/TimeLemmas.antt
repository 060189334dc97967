-- The least and the greatest time, with one time more.
use Rattle.std.proofs.Common.{List, [], ◌∷◌, ◌++◌, Some, ℤ, ◌≤ℤ◌, ◌<ℤ◌}
use Rattle.std.specs.Cmp.{int_chain}
use Rattle.std.specs.Int.Signed.{≤ℤ_refl, clash_ℤ}
use Rattle.std.proofs.lemmas.Int.{by_lt_z}
use Rattle.std.specs.List.{All}
use Rattle.std.proofs.lemmas.List.Elements.{All-push, Contains-push}
use Rattle.lp_series.specs.Counting.{IsGreatest, IsLeast}

-- less than one that is at most a third
lt_le : (a b c : ℤ) → a <ℤ b → b ≤ℤ c → a ≤ℤ c
lt_le a b c less at_most = by_lt_z c a (λ more. clash_ℤ (int_chain c a b more less) at_most) (λ d. d)

-- at most one that is less than a third
le_lt : (a b c : ℤ) → a ≤ℤ b → b <ℤ c → a ≤ℤ c
le_lt a b c at_most less = by_lt_z c a (λ more. clash_ℤ (int_chain b c a less more) at_most) (λ d. d)

-- a time that is less than the least is the least then
pub lesser : (times : List ℤ) (least time : ℤ) → time <ℤ least → IsLeast (Some least) times → IsLeast (Some time) (times ++ time ∷ [])
lesser times least time less so_far =
    let all : All (λ u. time ≤ℤ u) times = λ k d below. lt_le time least _ less (so_far.1 k d below) in
    (Contains-push times time, All-push (λ (u : ℤ). time ≤ℤ u) times time all (≤ℤ_refl time))

-- a time that is greater than the greatest is the greatest then
pub larger : (times : List ℤ) (greatest time : ℤ) → greatest <ℤ time → IsGreatest (Some greatest) times
    → IsGreatest (Some time) (times ++ time ∷ [])
larger times greatest time more so_far =
    let all : All (λ u. u ≤ℤ time) times = λ k d below. le_lt _ greatest time (so_far.1 k d below) more in
    (Contains-push times time, All-push (λ (u : ℤ). u ≤ℤ time) times time all (≤ℤ_refl time))
