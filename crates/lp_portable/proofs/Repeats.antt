-- A search for keys among the keys after them.
use Rattle.std.proofs.Common.{◌≡◌, ℕ, ◌<◌, ◌+◌, ◌||◌, Bool, true, false, cond, List, [], ◌∷◌, ◌++◌, length, take, drop, get_or, refl, sym, ap, ◌∙◌, arith}
use Rattle.std.proofs.Common.{bytes_eq, Bor, BTreeMap, is_some, Some, Option, nat_cmp, take-append-drop}
use Rattle.std.proofs.lemmas.List.{map-append, take_more}
use Rattle.std.proofs.lemmas.{Bool.or_cases, Bool.false≢true, List.Folds.list_any-append}
use Rattle.std.proofs.Common.{inl, inr}
use Rattle.std.proofs.lemmas.{List.drop_more, Map.Text.btree_map_updates_str}
use Rattle.std.specs.{BTreeMap.UpdatesBy, BTreeMap.get_by, Cmp.Lexicographic.slice_cmp, Cmp.Lexicographic.nat_list_eq_equiv, List.list_any}
use Rattle.std.proofs.Common.{Ordering, Less, is_lt, is_eq}
use Rattle.std.proofs.lemmas.{Bool.and_parts, Cmp.nat_list_cmp_total, Map.Text.is_eq-slice_cmp}
use Rattle.lp_events.specs.code.OwnBases.{is_strictly_sorted}
use Rattle.lp_values.specs.{declared.escaped.EscapedStr.EscapedStr, code.Texts.text_of}
use Rattle.lp_portable.specs.{code.Walks.keys_in, format.Portable.has_repeats}

-- The keys from a place on are the key at this place and the keys after it.
pub keys_from : {X : Type 0} (items : List (EscapedStr × X)) (i : ℕ) (x : EscapedStr × X) → i < length items → x ≡ get_or items i x
    → keys_in (drop i items) ≡ text_of x.0 ∷ keys_in (drop (i + 1) items)
keys_from {X} items i x within is =
    ap keys_in (drop_more items i x within) ∙ ap (λ (y : EscapedStr × X). text_of y.0 ∷ keys_in (drop (i + 1) items)) (sym is)

-- a test of keys, as the code has it
pub keys_any : {X : Type 0} (p : List ℕ → Bool) (items : List (EscapedStr × X)) → list_any p (keys_in items) ≡ list_any (λ x. p (text_of x.0)) items
keys_any p [] = refl
keys_any p (x ∷ items) = ap (λ (b : Bool). p (text_of x.0) || b) (keys_any p items)

-- A test or `true` is `true`.
or_true : (b : Bool) → (b || true) ≡ true
or_true true = refl
or_true false = refl

-- A key that is repeated among some keys is repeated among more keys.
repeats_within : (front keys : List (List ℕ)) → has_repeats keys ≡ true → has_repeats (front ++ keys) ≡ true
repeats_within [] keys is = is
repeats_within (k ∷ front) keys is = rw (repeats_within front keys is) (or_true (list_any (bytes_eq k) (front ++ keys)))

-- Keys are repeated among all if they are repeated among the keys from a place on.
pub repeats_from : {X : Type 0} (items : List (EscapedStr × X)) (i : ℕ) → has_repeats (keys_in (drop i items)) ≡ true → has_repeats (keys_in items) ≡ true
repeats_from {X} items i is =
    ap (λ (xs : List (EscapedStr × X)). has_repeats (keys_in xs)) (sym (take-append-drop i items))
    ∙ ap has_repeats (map-append (λ (x : EscapedStr × X). text_of x.0) (take i items) (drop i items))
    ∙ repeats_within (keys_in (take i items)) (keys_in (drop i items)) is

-- A search that looks at one more key first finds it there or among the others.
some_or : (b : Bool) (o : Option Unit) (v : Unit) (a : Bool) → is_some o ≡ a → is_some (cond b (Some v) o) ≡ (b || a)
some_or b o v a h = grind (arith)

-- a map with one key more has that and the keys before
pub has_more : (m n : BTreeMap (Bor (List ℕ)) Unit) (k : Bor (List ℕ)) (v : Unit) (key : List ℕ) (keys : List (List ℕ)) → k.now ≡ key
    → UpdatesBy (λ x y. slice_cmp nat_cmp x.now y.now) (λ x. slice_cmp nat_cmp k.now x.now) m n (Some v)
    → ((q : List ℕ) → is_some (get_by (λ x. slice_cmp nat_cmp q x.now) m) ≡ list_any (bytes_eq q) keys)
    → (q : List ℕ) → is_some (get_by (λ x. slice_cmp nat_cmp q x.now) n) ≡ list_any (bytes_eq q) (key ∷ keys)
has_more m n k v key keys is updates has q =
    rw (btree_map_updates_str k.now m n (Some v) updates q, ← is, nat_list_eq_equiv.symm q k.now) (some_or (bytes_eq k.now q) _ v _ (has q))

-- With one more key at the end, a key is repeated exactly if a key was repeated before or the new key is among the others.
repeats_snoc : (keys : List (List ℕ)) (k : List ℕ) → has_repeats (keys ++ k ∷ []) ≡ (list_any (bytes_eq k) keys || has_repeats keys)
repeats_snoc [] k = refl
repeats_snoc (x ∷ keys) k =
    rw (list_any-append (bytes_eq x) keys (k ∷ []), repeats_snoc keys k, nat_list_eq_equiv.symm x k)
    (four (list_any (bytes_eq x) keys) (bytes_eq k x) (list_any (bytes_eq k) keys) (has_repeats keys))
  where
    -- Four tests can be joined in another order.
    four : (a b c d : Bool) → ((a || (b || false)) || (c || d)) ≡ ((b || c) || (a || d))
    four true true c d = refl
    four true false true d = refl
    four true false false d = refl
    four false true c d = refl
    four false false true d = refl
    four false false false d = refl

-- A key that is repeated among the first keys is repeated among all keys.
repeats_front : (keys more : List (List ℕ)) → has_repeats keys ≡ true → has_repeats (keys ++ more) ≡ true
repeats_front [] more is = absurd (false≢true is)
repeats_front (k ∷ keys) more is = elim (or_cases (list_any (bytes_eq k) keys) (has_repeats keys) is) [
  | inl here ↦ rw (list_any-append (bytes_eq k) keys more, here) refl
  | inr later ↦ rw (repeats_front keys more later) (or_true (list_any (bytes_eq k) (keys ++ more)))
]

module _ {X : Type 0} (items : List (EscapedStr × X)) (i : ℕ) (x : EscapedStr × X) (within : i < length items) (is : x ≡ get_or items i x) where
  -- the first keys, with one more
  keys_more : keys_in (take (i + 1) items) ≡ keys_in (take i items) ++ text_of x.0 ∷ []
  keys_more =
      ap keys_in (take_more items i x within ∙ ap (λ (y : EscapedStr × X). take i items ++ y ∷ []) (sym is))
      ∙ map-append (λ (y : EscapedStr × X). text_of y.0) (take i items) (x ∷ [])

  -- If the next key is among the keys before it, a key is repeated.
  pub repeated_here : list_any (λ y. bytes_eq (text_of x.0) (text_of y.0)) (take i items) ≡ true → has_repeats (keys_in items) ≡ true
  repeated_here found =
      let again = keys_any (bytes_eq (text_of x.0)) (take i items) ∙ found in
      let front : has_repeats (keys_in (take (i + 1) items)) ≡ true =
      ap has_repeats keys_more ∙ repeats_snoc (keys_in (take i items)) (text_of x.0) ∙ rw again refl in
      ap (λ (xs : List (EscapedStr × X)). has_repeats (keys_in xs)) (sym (take-append-drop (i + 1) items))
      ∙ ap has_repeats (map-append (λ (y : EscapedStr × X). text_of y.0) (take (i + 1) items) (drop (i + 1) items))
      ∙ repeats_front (keys_in (take (i + 1) items)) (keys_in (drop (i + 1) items)) front

  -- If the next key is not among the keys before it, no key is repeated up to it.
  pub none_more : list_any (λ y. bytes_eq (text_of x.0) (text_of y.0)) (take i items) ≡ false → has_repeats (keys_in (take i items)) ≡ false
      → has_repeats (keys_in (take (i + 1) items)) ≡ false
  none_more none before =
      let again = keys_any (bytes_eq (text_of x.0)) (take i items) ∙ none in
      ap has_repeats keys_more ∙ repeats_snoc (keys_in (take i items)) (text_of x.0) ∙ rw (again, before) refl

-- An ordering that passes the test for less is `Less`.
less_is : (o : Ordering) → is_lt o ≡ true → o ≡ Less
less_is o h = grind (arith)

-- a text that is less than the first of texts that rise is less than the second too
rises_past : (k l : List ℕ) (keys : List (List ℕ)) → is_lt (slice_cmp nat_cmp k l) ≡ true → is_strictly_sorted (l ∷ keys) ≡ true
    → is_strictly_sorted (k ∷ keys) ≡ true
rises_past k l [] less up = refl
rises_past k l (m ∷ keys) less up =
    let parts = and_parts (is_lt (slice_cmp nat_cmp l m)) (is_strictly_sorted (m ∷ keys)) up in
    let past = nat_list_cmp_total.trans k l m (less_is (slice_cmp nat_cmp k l) less) (less_is (slice_cmp nat_cmp l m) parts.0) in
    rw past parts.1

-- A key that is less than the first of rising keys is none of them.
less_is_new : (k : List ℕ) (keys : List (List ℕ)) → is_strictly_sorted (k ∷ keys) ≡ true → list_any (bytes_eq k) keys ≡ false
less_is_new k [] rise = refl
less_is_new k (l ∷ keys) rise =
    let parts = and_parts (is_lt (slice_cmp nat_cmp k l)) (is_strictly_sorted (l ∷ keys)) rise in
    let other : bytes_eq k l ≡ false = sym (is_eq-slice_cmp k l) ∙ ap is_eq (less_is (slice_cmp nat_cmp k l) parts.0) in
    rw other (less_is_new k keys (rises_past k l keys parts.0 parts.1))

-- keys that rise are not repeated
pub risen_once : (keys : List (List ℕ)) → is_strictly_sorted keys ≡ true → has_repeats keys ≡ false
risen_once [] rise = refl
risen_once (k ∷ []) rise = refl
risen_once (k ∷ l ∷ keys) rise =
    let parts = and_parts (is_lt (slice_cmp nat_cmp k l)) (is_strictly_sorted (l ∷ keys)) rise in
    rw (less_is_new k (l ∷ keys) rise) (risen_once (l ∷ keys) parts.1)
