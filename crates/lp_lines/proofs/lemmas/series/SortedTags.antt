-- Tags by their keys: one list for each set of tags without a repeated key.
use Rattle.std.proofs.Common.{◌≡◌, ℕ, false, List, [], ◌∷◌, sym, ◌∙◌, ◌<◌, true, length, take, refl, zero, suc, Bool, cond}
use Rattle.std.proofs.Common.{ap, arith, zero-add, Ordering, Less, Contains, All}
use Rattle.std.proofs.Common.{IsPermutation, is_eq, nat_cmp, is_lt, bytes_eq, get_or, ◌⊎◌}
use Rattle.std.specs.Ordering.{ordering_reverse}
use Rattle.std.specs.{Cmp.Lexicographic.nat_list_eq_equiv, Cmp.Lexicographic.slice_cmp, List.AllByRecursion, List.IsDistinct, List.list_any}
use Rattle.std.specs.List.{range_with_len}
use Rattle.std.proofs.lemmas.List.Elements.{All-cons, All-contains, All-nil, All-weaker, recursion_from_All}
use Rattle.std.proofs.lemmas.List.Sorted.{All-permutation, IsPermutation-cons}
use Rattle.std.proofs.lemmas.List.Sorted.{IsPermutation-middle, IsPermutation-refl, IsPermutation-sym, IsPermutation-trans}
use Rattle.std.proofs.lemmas.List.Sorted.{Contains-permutation}
use Rattle.std.proofs.lemmas.{Map.Keys.IsDistinct-IsPermutation, Map.Text.is_eq-slice_cmp, Bool.and_parts, Bool.or_parts}
use Rattle.std.proofs.lemmas.{Cmp.nat_list_cmp_total, Cmp.tied_itself, List.FromFn.get_or-range_with_len, List.Sums.fails_before_first}
use Rattle.std.proofs.lemmas.{List.length-map}
use Rattle.lp_format.specs.format.{Pair, Text}
use Rattle.lp_format.proofs.lemmas.lists.Elements.{first_element, first_or_later, later_element}
use Rattle.lp_lines.specs.code.Bases.{base_by_key, base_text, owned, by_key, in_order, first_repeated, is_repeated_at}
use Rattle.lp_events.specs.code.OwnBases.{keys_of, is_strictly_sorted}
use Rattle.lp_lines.specs.code.Keys.{placed_by, sorted_by}
use Rattle.lp_lines.specs.laws.BaseLaws.{entry_keys}
use Rattle.lp_lines.proofs.lemmas.series.BaseLemmas.{first_repeated_is}
use Rattle.lp_lines.proofs.lemmas.series.SortedByKey.{all_sorted}

-- the key of an entry is less than the keys of all these entries
abbrev IsBefore : List ℕ × List ℕ → List (List ℕ × List ℕ) → Type 0
IsBefore e es = All (λ f. slice_cmp nat_cmp e.0 f.0 ≡ Less) es

-- the keys of entries rise
abbrev pub Rise : List (List ℕ × List ℕ) → Type 0
Rise [] = Unit {0}
Rise (e ∷ es) = IsBefore e es × Rise es

-- an entry that is less than the first of rising entries is less than all of them
before_all : (e f : List ℕ × List ℕ) (es : List (List ℕ × List ℕ)) → slice_cmp nat_cmp e.0 f.0 ≡ Less → IsBefore f es → IsBefore e (f ∷ es)
before_all e f es less before = All-cons (λ g. slice_cmp nat_cmp e.0 g.0 ≡ Less) f es less
    (All-weaker (λ g. slice_cmp nat_cmp f.0 g.0 ≡ Less) (λ g. slice_cmp nat_cmp e.0 g.0 ≡ Less)
    (λ g h. nat_list_cmp_total.trans e.0 f.0 g.0 less h) es before)

-- whether two entries have one key
abbrev same_key : List ℕ × List ℕ → List ℕ × List ℕ → Bool
same_key e f = bytes_eq e.0 f.0

-- none of the entries `es` has the key of `e`
abbrev IsNew : List ℕ × List ℕ → List (List ℕ × List ℕ) → Type 0
IsNew e es = AllByRecursion (λ f. same_key e f ≡ false) es

-- an order that is neither greater nor equal is less
less_from_others : (o : Ordering) → is_lt (ordering_reverse o) ≡ false → is_eq o ≡ false → o ≡ Less
less_from_others o greater equal = grind arith

-- an order that passes `is_lt` is less
less_from_test : (o : Ordering) → is_lt o ≡ true → o ≡ Less
less_from_test o h = grind (arith)

-- the entries and one more are placed: they are the same entries, and rise if the entries rose and the key is new
record IsPlaced (e : List ℕ × List ℕ) (es placed : List (List ℕ × List ℕ)) : Type 0 where
  moves : IsPermutation (e ∷ es) placed
  rise : Rise es → IsNew e es → Rise placed

-- an entry is placed after the first of the entries, or before it
at_place : (e f : List ℕ × List ℕ) (es rest : List (List ℕ × List ℕ)) (less : Bool) → is_lt (slice_cmp nat_cmp f.0 e.0) ≡ less
    → IsPlaced e es rest → IsPlaced e (f ∷ es) (cond less (f ∷ rest) (e ∷ f ∷ es))
at_place e f es rest true less more = record {
  moves = IsPermutation-trans (e ∷ f ∷ es) (f ∷ e ∷ es) (f ∷ rest)
      (IsPermutation-sym (f ∷ e ∷ es) (e ∷ f ∷ es) (IsPermutation-middle (f ∷ []) e es)) (IsPermutation-cons f (e ∷ es) rest more.moves);
  rise = λ up new. (
    All-permutation (λ g. slice_cmp nat_cmp f.0 g.0 ≡ Less) (e ∷ es) rest more.moves
        (All-cons (λ g. slice_cmp nat_cmp f.0 g.0 ≡ Less) e es (less_from_test (slice_cmp nat_cmp f.0 e.0) less) up.0),
    more.rise up.1 new.1,
  );
}
at_place e f es rest false less more = record {
  moves = IsPermutation-refl (e ∷ f ∷ es);
  rise = λ up new. (
    before_all e f es (less_from_others (slice_cmp nat_cmp e.0 f.0)
        (sym (ap is_lt (nat_list_cmp_total.antisymm f.0 e.0)) ∙ less) (is_eq-slice_cmp e.0 f.0 ∙ new.0)) up.0,
    up,
  );
}

-- an entry is placed where it belongs
placed : (e : List ℕ × List ℕ) (es : List (List ℕ × List ℕ)) → IsPlaced e es (placed_by (λ f. f.0) e es)
placed e [] = record { moves = IsPermutation-refl (e ∷ []); rise = λ up new. (All-nil (λ f. slice_cmp nat_cmp e.0 f.0 ≡ Less), tt) }
placed e (f ∷ es) = at_place e f es (placed_by (λ g. g.0) e es) (is_lt (slice_cmp nat_cmp f.0 e.0)) refl (placed e es)

-- sorted entries are the entries in some order
sorted_moves : (es : List (List ℕ × List ℕ)) → IsPermutation es (sorted_by (λ e. e.0) es)
sorted_moves [] = IsPermutation-refl []
sorted_moves (e ∷ es) = IsPermutation-trans (e ∷ es) (e ∷ sorted_by (λ e. e.0) es) (placed_by (λ e. e.0) e (sorted_by (λ e. e.0) es))
    (IsPermutation-cons e es (sorted_by (λ e. e.0) es) (sorted_moves es)) (placed e (sorted_by (λ e. e.0) es)).moves

-- sorted entries rise if no key is repeated
distinct_rise : (es : List (List ℕ × List ℕ)) → IsDistinct same_key es → Rise (sorted_by (λ e. e.0) es)
unfolding IsDistinct
distinct_rise [] distinct = tt
distinct_rise (e ∷ es) distinct = (placed e (sorted_by (λ e. e.0) es)).rise (distinct_rise es distinct.1)
    (all_sorted (λ (f : List ℕ × List ℕ). f.0) (λ f. same_key e f ≡ false) es distinct.0)

-- an entry that is less than others has a new key
less_is_new : (e : List ℕ × List ℕ) (es : List (List ℕ × List ℕ)) → AllByRecursion (λ f. slice_cmp nat_cmp e.0 f.0 ≡ Less) es → IsNew e es
less_is_new e [] before = tt
less_is_new e (f ∷ es) before = (sym (is_eq-slice_cmp e.0 f.0) ∙ ap is_eq before.0, less_is_new e es before.1)

-- no key is repeated among entries that rise
rise_distinct : (es : List (List ℕ × List ℕ)) → Rise es → IsDistinct same_key es
unfolding IsDistinct
rise_distinct [] up = tt
rise_distinct (e ∷ es) up = (
  less_is_new e es (recursion_from_All (λ f. slice_cmp nat_cmp e.0 f.0 ≡ Less) es up.0),
  rise_distinct es up.1,
)

-- no key is repeated if there is no first repeated key
none_repeated : (keys : List (List ℕ)) → first_repeated keys ≡ length keys → (k : ℕ) → k < length keys → is_repeated_at keys k ≡ false
unfolding first_repeated
none_repeated keys e k h =
    let fails = fails_before_first (is_repeated_at keys) (range_with_len 0 (length keys)) k 0 (omega arith) in
    rw (get_or-range_with_len 0 (length keys) k 0 h, zero-add k) at fails

-- a tag has a new key if its key is at none of the places
new_tag : (t : Pair Text Text) (tags : List (Pair Text Text))
    → ((k : ℕ) → k < length (keys_of tags) → bytes_eq (get_or (keys_of tags) k []) t.key.bytes ≡ false)
    → IsNew (t.key.bytes, t.value.bytes) (in_order tags)
new_tag t [] none = tt
new_tag t (u ∷ tags) none = (
  nat_list_eq_equiv.symm t.key.bytes u.key.bytes ∙ none 0 (omega arith),
  new_tag t tags (λ k l. none (suc k) (omega arith)),
)

-- tags are distinct if no key is at an earlier place as well
none_distinct : (tags : List (Pair Text Text)) → ((k : ℕ) → k < length (keys_of tags) → is_repeated_at (keys_of tags) k ≡ false)
    → IsDistinct same_key (in_order tags)
unfolding IsDistinct
none_distinct [] none = tt
none_distinct (t ∷ tags) none =
    let parts = λ (k : ℕ) (l : k < length (keys_of tags)). or_parts (bytes_eq (get_or (keys_of tags) k []) t.key.bytes)
    (list_any (bytes_eq (get_or (keys_of tags) k [])) (take k (keys_of tags))) (none (suc k) (omega arith)) in
    (new_tag t tags (λ k l. (parts k l).0), none_distinct tags (λ k l. (parts k l).1))

-- the key of a tag with a new key is at none of the places
at_no_place : (t : Pair Text Text) (tags : List (Pair Text Text)) → IsNew (t.key.bytes, t.value.bytes) (in_order tags)
    → (k : ℕ) → k < length (keys_of tags) → bytes_eq (get_or (keys_of tags) k []) t.key.bytes ≡ false
at_no_place t [] new k l = absurd (omega arith)
at_no_place t (u ∷ tags) new zero l = nat_list_eq_equiv.symm u.key.bytes t.key.bytes ∙ new.0
at_no_place t (u ∷ tags) new (suc k) l = at_no_place t tags new.1 k (omega arith)

-- no key of distinct tags is at an earlier place as well
distinct_none : (tags : List (Pair Text Text)) → IsDistinct same_key (in_order tags)
    → (k : ℕ) → k < length (keys_of tags) → is_repeated_at (keys_of tags) k ≡ false
unfolding IsDistinct
distinct_none [] distinct k l = absurd (omega arith)
distinct_none (t ∷ tags) distinct zero l = refl
distinct_none (t ∷ tags) distinct (suc k) l =
    let here = at_no_place t tags distinct.0 k (omega arith) in
    let later = distinct_none tags distinct.1 k (omega arith) in
    rw (here, later) refl

-- the tags by their keys are the tags in some order, and rise if no key is repeated
pub by_key_placed : (tags : List (Pair Text Text)) → first_repeated (keys_of tags) ≡ length tags
    → IsPermutation (in_order tags) (by_key tags) × Rise (by_key tags)
unfolding by_key
by_key_placed tags once = (
  sorted_moves (in_order tags),
  distinct_rise (in_order tags) (none_distinct tags (none_repeated (keys_of tags) (once ∙ sym (length-map tags (λ t. t.key.bytes))))),
)

-- no key is repeated if the tags by their keys rise
pub rise_once : (tags : List (Pair Text Text)) → Rise (by_key tags) → first_repeated (keys_of tags) ≡ length tags
unfolding by_key
rise_once tags up =
    let distinct = IsDistinct-IsPermutation same_key (λ e f. nat_list_eq_equiv.symm e.0 f.0) (by_key tags) (in_order tags)
    (IsPermutation-sym (in_order tags) (by_key tags) (sorted_moves (in_order tags))) (rise_distinct (by_key tags) up) in
    let len = length-map tags (λ (t : Pair Text Text). t.key.bytes) in
    first_repeated_is (keys_of tags) (length tags) (omega arith) (λ k l. distinct_none tags distinct k (omega arith)) (λ l. absurd (omega arith))

-- no key is less than itself
not_below_itself : (k : List ℕ) → slice_cmp nat_cmp k k ≡ Less → ⊥
not_below_itself k h = let same = tied_itself nat_list_cmp_total k in cc

-- each element of one list is in the other
abbrev IsWithin : List (List ℕ × List ℕ) → List (List ℕ × List ℕ) → Type 0
IsWithin xs ys = (e : List ℕ × List ℕ) → Contains xs e → Contains ys e

-- an element of a rising list is the first element, or comes after it
after_first : (x e : List ℕ × List ℕ) (xs : List (List ℕ × List ℕ)) → IsBefore x xs → Contains (x ∷ xs) e
    → (e ≡ x) ⊎ (Contains xs e × (slice_cmp nat_cmp x.0 e.0 ≡ Less))
after_first x e xs below h = grind (arith, first_or_later, All-contains (λ f. slice_cmp nat_cmp x.0 f.0 ≡ Less) xs e below)

-- two rising lists with the same elements are equal
same_elements : (xs ys : List (List ℕ × List ℕ)) → Rise xs → Rise ys → IsWithin xs ys → IsWithin ys xs → xs ≡ ys
same_elements [] [] rise up h k = refl
same_elements [] (y ∷ ys) rise up h k = let l = (k y (first_element y ys)).1 in absurd (omega arith)
same_elements (x ∷ xs) [] rise up h k = let l = (h x (first_element x xs)).1 in absurd (omega arith)
same_elements (x ∷ xs) (y ∷ ys) rise up h k =
    let here = after_first y x ys up.0 (h x (first_element x xs)) in
    let there = after_first x y xs rise.0 (k y (first_element y ys)) in
    let same : x ≡ y = grind (arith, not_below_itself, nat_list_cmp_total.trans x.0 y.0 x.0) in
    let more = same_elements xs ys rise.1 up.1
    (λ e in_xs. let at = after_first y e ys up.0 (h e (later_element x e xs in_xs)) in
    let less = All-contains (λ f. slice_cmp nat_cmp x.0 f.0 ≡ Less) xs e rise.0 in_xs in grind (arith, not_below_itself))
    (λ e in_ys. let at = after_first x e xs rise.0 (k e (later_element y e ys in_ys)) in
    let less = All-contains (λ f. slice_cmp nat_cmp y.0 f.0 ≡ Less) ys e up.0 in_ys in grind (arith, not_below_itself)) in
    cc

-- two rising lists of which one is the other in some order are equal
pub same_moved : (xs ys : List (List ℕ × List ℕ)) → Rise xs → Rise ys → IsPermutation xs ys → xs ≡ ys
same_moved xs ys rise up moves = same_elements xs ys rise up (λ e h. Contains-permutation xs ys e moves h)
    (λ e h. Contains-permutation ys xs e (IsPermutation-sym xs ys moves) h)

-- keys that rise from each to the next rise
pub passes_rise : (es : List (List ℕ × List ℕ)) → is_strictly_sorted (entry_keys es) ≡ true → Rise es
passes_rise [] h = tt
passes_rise (e ∷ []) h = (All-nil (λ f. slice_cmp nat_cmp e.0 f.0 ≡ Less), tt)
passes_rise (e ∷ f ∷ es) h = grind (arith, and_parts, less_from_test, before_all, passes_rise (f ∷ es))

-- the keys of the entries of tags are the keys of the tags
keys_in_order : (tags : List (Pair Text Text)) → entry_keys (in_order tags) ≡ keys_of tags
keys_in_order [] = refl
keys_in_order (t ∷ tags) = ap (λ (ks : List (List ℕ)). t.key.bytes ∷ ks) (keys_in_order tags)

-- tags whose keys rise are in the order of their keys
pub by_key_in_order : (tags : List (Pair Text Text)) → first_repeated (keys_of tags) ≡ length tags
    → is_strictly_sorted (keys_of tags) ≡ true → in_order tags ≡ by_key tags
by_key_in_order tags once rise =
    let placed = by_key_placed tags once in
    same_moved (in_order tags) (by_key tags) (passes_rise (in_order tags) (ap is_strictly_sorted (keys_in_order tags) ∙ rise)) placed.1 placed.0

-- tags in any order are one list by their keys
pub by_key_same : (tags others : List (Pair Text Text)) → first_repeated (keys_of tags) ≡ length tags
    → first_repeated (keys_of others) ≡ length others
    → IsPermutation (in_order tags) (in_order others) → by_key tags ≡ by_key others
by_key_same tags others once too moves =
    let one = by_key_placed tags once in
    let two = by_key_placed others too in
    same_moved (by_key tags) (by_key others) one.1 two.1 (IsPermutation-trans (by_key tags) (in_order tags) (by_key others)
    (IsPermutation-sym (in_order tags) (by_key tags) one.0) (IsPermutation-trans (in_order tags) (in_order others) (by_key others) moves two.0))

-- no key is repeated if the keys rise
in_order_once : (tags : List (Pair Text Text)) → is_strictly_sorted (keys_of tags) ≡ true → first_repeated (keys_of tags) ≡ length tags
in_order_once tags rise =
    let distinct = rise_distinct (in_order tags) (passes_rise (in_order tags) (ap is_strictly_sorted (keys_in_order tags) ∙ rise)) in
    let len = length-map tags (λ (t : Pair Text Text). t.key.bytes) in
    first_repeated_is (keys_of tags) (length tags) (omega arith) (λ k l. distinct_none tags distinct k (omega arith)) (λ l. absurd (omega arith))

-- the base by key of tags whose keys rise is the base in their own order
pub rising_by_key : (measurement : List ℕ) (tags : List (Pair Text Text)) → is_strictly_sorted (keys_of tags) ≡ true
    → base_by_key measurement tags ≡ owned (base_text measurement (in_order tags))
unfolding base_by_key
rising_by_key measurement tags rise =
    let once = in_order_once tags rise in
    let same = by_key_in_order tags once rise in
    grind (arith)
