-- How a room grows, and what it shows then.
use Rattle.std.specs.Prelude.{◌≡◌, ◌≤◌, ◌+◌, ℕ, List, length, take}

-- what is put into a room comes after the bytes that are in use; how many are, with those that had no place, is counted
pub record Grows (old : List ℕ) (used : ℕ) (new : List ℕ) (all : ℕ) : Type 0 where
  pub size : length new ≡ length old
  pub more : used ≤ all
  pub kept : take used new ≡ take used old

-- if all had a place, this is shown by each room that has the bytes in use
abbrev pub Shows : {A : Type 0} → (List ℕ → A) → List ℕ → ℕ → A → Type 0
Shows f room used x = used ≤ length room → (r : List ℕ) → take used r ≡ take used room → f r ≡ x

-- if all had a place, so many bytes more of the room are in use
abbrev pub TakesRoom : List ℕ → ℕ → ℕ → ℕ → Type 0
TakesRoom room used all more = all ≤ length room → all ≡ used + more
