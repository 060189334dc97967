-- Elements of lists: the first one and the others.
use Rattle.std.proofs.Common.{◌≡◌, ◌⊎◌, suc, List, ◌∷◌, refl, arith, Contains}

-- the first element of a list is in the list
pub first_element : {X : Type 0} (x : X) (xs : List X) → Contains (x ∷ xs) x
first_element x xs = (0, omega arith, refl)

-- an element of a list is in the list with one more element at the front
pub later_element : {X : Type 0} (y x : X) (xs : List X) → Contains xs x → Contains (y ∷ xs) x
later_element y x xs h = let at = h.1 in let is = h.2 in (suc h.0, omega arith, is)

-- an element of a list is the first element or one of the others
pub first_or_later : {X : Type 0} (y x : X) (xs : List X) → Contains (y ∷ xs) x → (y ≡ x) ⊎ Contains xs x
first_or_later y x xs h = grind arith
