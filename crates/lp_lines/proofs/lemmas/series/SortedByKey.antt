-- A stable sort by keys gives exactly one list: it is in order, and has for each key the same elements in the same order.
use Rattle.std.proofs.Common.{◌≡◌, ℕ, suc, ◌<◌, ◌≤◌, Bool, true, false, List, [], ◌∷◌, length, get_or, map, refl, sym, ap, ◌∙◌, arith}
use Rattle.std.proofs.Common.{is_lt, nat_cmp, not, cond}
use Rattle.std.specs.{Cmp.IsStrictWeakOrder, Cmp.Lexicographic.slice_cmp, List.AllByRecursion, List.filter}
use Rattle.std.specs.List.Sorted.{IsSortedBy, IsStableBy, ties}
use Rattle.std.proofs.lemmas.{Bool.and_parts, Bool.cases_Bool, Bool.false≢true, Bool.not-true, Cmp.nat_list_cmp_total}
use Rattle.std.proofs.lemmas.List.{Elements.recursion_from_All, Sorted.ranks_by, Sorted.sorted_far}
use Rattle.lp_lines.specs.code.Keys.{placed_by, sorted_by}

module _ {X : Type 0} (lt : X → X → Bool) (o : IsStrictWeakOrder lt) where
  -- none of the elements `ys` is less than `x`
  abbrev pub AreNotLess : X → List X → Type 0
  AreNotLess x ys = AllByRecursion (λ y. lt y x ≡ false) ys

  -- no element of the list is less than one before it
  abbrev pub Ordered : List X → Type 0
  Ordered [] = Unit {0}
  Ordered (x ∷ xs) = AreNotLess x xs × Ordered xs

  -- a list that is sorted is in order
  pub ordered_from_sorted : (xs : List X) → IsSortedBy lt xs → Ordered xs
  ordered_from_sorted xs up = from_far xs (sorted_far lt o xs up)
    where
      -- a list that is in order at each two places is in order
      from_far : (xs : List X) → ((i j : ℕ) (d : X) → i ≤ j → j < length xs → lt (get_or xs j d) (get_or xs i d) ≡ false) → Ordered xs
      from_far [] far = tt
      from_far (x ∷ xs) far = (
        recursion_from_All (λ y. lt y x ≡ false) xs (λ k d l. far 0 (suc k) d (omega arith) (omega arith)),
        from_far xs (λ i j d l m. far (suc i) (suc j) d (omega arith) (omega arith)),
      )

  -- no element is less than itself
  not_itself : (x : X) → lt x x ≡ false
  not_itself x = grind (arith, cases_Bool, false≢true, o.one_way)

  -- an element that is less than the first of a list in order ties with none of the list
  none_ties : (x y : X) (ys : List X) → lt x y ≡ true → AreNotLess y ys → filter (ties lt x) ys ≡ []
  none_ties x y [] less after = refl
  none_ties x y (z ∷ ys) less after =
      let apart : lt x z ≡ true = grind (arith, cases_Bool, false≢true, o.chain x z y) in
      rw apart (none_ties x y ys less after.1)

  -- two lists in order with the same ties are equal
  pub same_ordered : (xs ys : List X) → Ordered xs → Ordered ys → IsStableBy lt xs ys → xs ≡ ys
  same_ordered [] [] up rise same = refl
  same_ordered [] (y ∷ ys) up rise same = let s = same y in let i = not_itself y in absurd (grind arith)
  same_ordered (x ∷ xs) [] up rise same = let s = same x in let i = not_itself x in absurd (grind arith)
  same_ordered (x ∷ xs) (y ∷ ys) up rise same =
      let i = not_itself x in
      let j = not_itself y in
      let not_before : lt x y ≡ false = grind (arith, cases_Bool, false≢true, same x, none_ties x y ys) in
      let not_after : lt y x ≡ false = grind (arith, cases_Bool, false≢true, same y, none_ties y x xs) in
      let first : x ≡ y = grind (arith, same x) in
      let more = same_ordered xs ys up.1 rise.1 (λ z. grind (arith, cases_Bool, same z)) in
      cc

  -- swapping two elements does not change which elements pass, if not both of them pass
  filter_swap : (p : X → Bool) (x y : X) (rest : List X) → (p x ≡ true → p y ≡ true → ⊥)
      → filter p (y ∷ x ∷ rest) ≡ filter p (x ∷ y ∷ rest)
  filter_swap p x y rest apart = grind (arith, cases_Bool)

  -- an element does not tie with two elements of which one is less than the other
  not_both : (z x y : X) → lt y x ≡ true → ties lt z x ≡ true → ties lt z y ≡ true → ⊥
  not_both z x y less one other =
      let a = and_parts (not (lt z x)) (not (lt x z)) one in
      let b = and_parts (not (lt z y)) (not (lt y z)) other in
      let c = o.chain y z x (not-true (lt y z) b.1) (not-true (lt z x) a.0) in
      false≢true (sym c ∙ less)

module _ {X : Type 0} (key : X → List ℕ) where
  -- whether one element goes before another by their keys
  abbrev pub by_key : X → X → Bool
  by_key x y = is_lt (slice_cmp nat_cmp (key x) (key y))

  -- the order of elements by their keys is a strict weak order
  pub by_key_order : IsStrictWeakOrder by_key
  by_key_order = ranks_by nat_list_cmp_total key

  -- a property of elements and of one more holds of all after it is placed
  all_placed : (P : X → Type 0) (x : X) (ys : List X) → P x → AllByRecursion P ys → AllByRecursion P (placed_by key x ys)
  all_placed P x [] h all = (h, tt)
  all_placed P x (y ∷ ys) h all = grind (arith, cases_Bool, all_placed P x ys)

  -- elements that are not less than `y` are not less than `x`, if `y` is not less than `x`
  all_later : (x y : X) (zs : List X) → by_key y x ≡ false → AreNotLess by_key by_key_order y zs → AreNotLess by_key by_key_order x zs
  all_later x y [] not_less all = tt
  all_later x y (z ∷ zs) not_less all = (by_key_order.chain z y x all.0 not_less, all_later x y zs not_less all.1)

  -- an element that is placed in a list in order leaves it in order
  ordered_placed : (x : X) (ys : List X) → Ordered by_key by_key_order ys → Ordered by_key by_key_order (placed_by key x ys)
  ordered_placed x [] up = (tt, tt)
  ordered_placed x (y ∷ ys) up = grind (
    arith,
    cases_Bool,
    all_placed (λ z. by_key z y ≡ false) x ys,
    by_key_order.one_way y x,
    ordered_placed x ys up.1,
    all_later x y ys,
  )

  -- an element that is placed stays before the elements of its key
  stable_placed : (z x : X) (ys : List X) → filter (ties by_key z) (placed_by key x ys) ≡ filter (ties by_key z) (x ∷ ys)
  stable_placed z x [] = refl
  stable_placed z x (y ∷ ys) = grind (
    arith,
    cases_Bool,
    stable_placed z x ys,
    filter_swap by_key by_key_order (ties by_key z) x y ys,
    not_both by_key by_key_order z x y,
  )

  -- a list that is sorted by keys is in order
  pub ordered_sorted : (xs : List X) → Ordered by_key by_key_order (sorted_by key xs)
  ordered_sorted [] = tt
  ordered_sorted (x ∷ xs) = ordered_placed x (sorted_by key xs) (ordered_sorted xs)

  -- a list that is sorted by keys has for each key the same elements in the same order
  pub stable_sorted : (z : X) (xs : List X) → filter (ties by_key z) (sorted_by key xs) ≡ filter (ties by_key z) xs
  stable_sorted z [] = refl
  stable_sorted z (x ∷ xs) = stable_placed z x (sorted_by key xs)
      ∙ ap (λ (rest : List X). cond (ties by_key z x) (x ∷ rest) rest) (stable_sorted z xs)

  -- a property of all elements of a list holds of all after they are sorted
  pub all_sorted : (P : X → Type 0) (xs : List X) → AllByRecursion P xs → AllByRecursion P (sorted_by key xs)
  all_sorted P [] all = tt
  all_sorted P (x ∷ xs) all = all_placed P x (sorted_by key xs) all.0 (all_sorted P xs all.1)

  -- a stable sort gives the list that is sorted by keys
  pub sorted_is : (xs ys : List X) → IsSortedBy by_key ys → IsStableBy by_key xs ys → ys ≡ sorted_by key xs
  sorted_is xs ys up same = same_ordered by_key by_key_order ys (sorted_by key xs) (ordered_from_sorted by_key by_key_order ys up)
      (ordered_sorted xs) (λ z. stable_sorted z xs ∙ sym (same z))

  -- lists with the same elements for each key are sorted to the same list
  pub same_sorted : (xs ys : List X) → ((z : X) → filter (ties by_key z) xs ≡ filter (ties by_key z) ys) → sorted_by key xs ≡ sorted_by key ys
  same_sorted xs ys same = same_ordered by_key by_key_order (sorted_by key xs) (sorted_by key ys) (ordered_sorted xs) (ordered_sorted ys)
      (λ z. stable_sorted z ys ∙ sym (same z) ∙ sym (stable_sorted z xs))

module _ {X Y : Type 0} (f : X → Y) (key : Y → List ℕ) where
  -- mapping elements to others places them alike
  map_placed : (x : X) (ys : List X) → map f (placed_by (λ z. key (f z)) x ys) ≡ placed_by key (f x) (map f ys)
  map_placed x [] = refl
  map_placed x (y ∷ ys) = grind (arith, cases_Bool, map_placed x ys)

  -- mapping elements to others sorts them alike
  pub map_sorted : (xs : List X) → map f (sorted_by (λ z. key (f z)) xs) ≡ sorted_by key (map f xs)
  map_sorted [] = refl
  map_sorted (x ∷ xs) = map_placed x (sorted_by (λ z. key (f z)) xs) ∙ ap (placed_by key (f x)) (map_sorted xs)
