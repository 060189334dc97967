-- Bases: keys that rise, and the first key that is repeated.
use Rattle.std.proofs.Common.{◌≡◌, ℕ, suc, zero, ◌+◌, ◌<◌, ◌≤◌, Bool, true, false, cond, ◌||◌, List, [], ◌∷◌, length, take}
use Rattle.std.proofs.Common.{get_or, map, Some, Option, refl, ap, sym, ◌∙◌, arith, Bor, BTreeMap, is_some}
use Rattle.std.proofs.Common.{is_lt, nat_cmp, bytes_eq}
use borrow.Author.Count.{below_more}
use Rattle.std.proofs.lemmas.{Grind.common_steps, List.FromFn.length-range_with_len, List.FromFn.get_or-range_with_len}
use Rattle.std.proofs.lemmas.{List.length-map, List.get_or-map, List.Folds.list_all-map, List.Folds.list_any_more}
use Rattle.std.proofs.lemmas.{List.Sums.position_or_len_is, Map.Text.btree_map_updates_str}
use Rattle.std.proofs.lemmas.Bool.{cases_Bool}
use Rattle.std.proofs.Math.Bool.{and-false}
use Rattle.std.specs.{BTreeMap.UpdatesBy, BTreeMap.get_by, Cmp.Lexicographic.slice_cmp}
use Rattle.std.specs.{Cmp.Lexicographic.nat_list_eq_equiv, List.list_all, List.list_any, List.range_with_len}
use Rattle.std.specs.{List.IsAllAdjacentAnswer}
use Rattle.lp_values.specs.{declared.escaped.EscapedStr.EscapedStr, code.Texts.text_of}
use Rattle.lp_lines.specs.code.Bases.{base_by_key, base_of, first_repeated, is_ambiguous_tag, is_borrowed, is_repeated_at}
use Rattle.lp_events.specs.code.OwnBases.{is_own_base, is_strictly_sorted, keys_of}
use Rattle.lp_lines.specs.code.Parsed.{tag_of}
use Rattle.lp_format.specs.{code.Light.is_single_tag, format.Pair, format.Text}

-- texts rise exactly if each is greater than the one before it
pub rise_is : {X : Type 0} (text : X → List ℕ) (xs : List X) (r : Bool)
    → IsAllAdjacentAnswer (λ x y b. b ≡ is_lt (slice_cmp nat_cmp (text x) (text y))) xs r → r ≡ is_strictly_sorted (map text xs)
rise_is text [] true h = refl
rise_is text [] false h = let l = h.1 in absurd (omega arith)
rise_is text (x ∷ []) true h = refl
rise_is text (x ∷ []) false h = let l = h.1 in absurd (omega arith)
rise_is text (x ∷ y ∷ xs) true h = rw (← h 0 x (omega arith)) (rise_is text (y ∷ xs) true (λ k d l.
    let next : suc k + 1 ≡ suc (k + 1) = omega arith in rw next at (h (suc k) d (omega arith))))
rise_is text (x ∷ y ∷ xs) false (zero, l, falls) = rw (← falls x) refl
rise_is text (x ∷ y ∷ xs) false (suc k, l, falls) =
    let next : suc k + 1 ≡ suc (k + 1) = omega arith in
    rw (← rise_is text (y ∷ xs) false (k, omega arith, λ d. rw next at (falls d)))
    (sym (and-false (is_lt (slice_cmp nat_cmp (text x) (text y)))))

-- the keys of the tags of the code are the keys of the tags of the definitions
pub keys_are : (tags : List (EscapedStr × EscapedStr)) → map (λ t. text_of t.0) tags ≡ keys_of (map tag_of tags)
keys_are [] = refl
keys_are (t ∷ tags) = ap (λ (keys : List (List ℕ)). text_of t.0 ∷ keys) (keys_are tags)

-- the key at a place is the text of the key of the tag there
pub key_is : (tags : List (EscapedStr × EscapedStr)) (i : ℕ) (t : EscapedStr × EscapedStr) → i < length tags → t ≡ get_or tags i t
    → get_or (keys_of (map tag_of tags)) i [] ≡ text_of t.0
key_is tags i t within is =
    get_or-map (λ (t : Pair Text Text). t.key.bytes) (map tag_of tags) i (tag_of t) [] (omega (arith, length-map tags tag_of))
    ∙ ap (λ (t : Pair Text Text). t.key.bytes) (get_or-map tag_of tags i t (tag_of t) within)
    ∙ ap (λ (t : EscapedStr × EscapedStr). text_of t.0) (sym is)

-- there are as many keys as tags
pub length_keys : (tags : List (EscapedStr × EscapedStr)) → length (keys_of (map tag_of tags)) ≡ length tags
length_keys tags = length-map (map tag_of tags) _ ∙ length-map tags tag_of

-- the first repeated key is at `n` if no key before `n` is repeated, and the key at `n`, if there is one, is repeated
pub first_repeated_is : (keys : List (List ℕ)) (n : ℕ) → n ≤ length keys → ((k : ℕ) → k < n → is_repeated_at keys k ≡ false)
    → (n < length keys → is_repeated_at keys n ≡ true)
    → first_repeated keys ≡ n
unfolding first_repeated
first_repeated_is keys n fits none found = position_or_len_is (is_repeated_at keys) (range_with_len 0 (length keys)) n 0
    (grind (arith, length-range_with_len)) (λ k h. grind (arith, get_or-range_with_len, none k h))
    (λ h. grind (arith, get_or-range_with_len, length-range_with_len))

-- a value is in a map after one key more exactly if it was in the map or is the key
some_or : (b : Bool) (o : Option Unit) (v : Unit) (a : Bool) → is_some o ≡ a → is_some (cond b (Some v) o) ≡ (a || b)
some_or x0 o v x3 h = grind (arith)

-- a map of the keys so far is, with one key more, a map of the keys up to the next place
pub has_more : (m n : BTreeMap (Bor (List ℕ)) Unit) (k : Bor (List ℕ)) (v : Unit) (keys : List (List ℕ)) (i : ℕ)
    → i < length keys → k.now ≡ get_or keys i []
    → UpdatesBy (λ x y. slice_cmp nat_cmp x.now y.now) (λ x. slice_cmp nat_cmp k.now x.now) m n (Some v)
    → ((q : List ℕ) → is_some (get_by (λ x. slice_cmp nat_cmp q x.now) m) ≡ list_any (bytes_eq q) (take i keys))
    → (q : List ℕ) → is_some (get_by (λ x. slice_cmp nat_cmp q x.now) n) ≡ list_any (bytes_eq q) (take (i + 1) keys)
has_more m n k v keys i within is updates has q = rw (
  btree_map_updates_str k.now m n (Some v) updates q,
  list_any_more (bytes_eq q) keys i [] within,
  ← is,
  nat_list_eq_equiv.symm q k.now,
)
    (some_or (bytes_eq k.now q) _ v _ (has q))

-- the test of single tags gives the same for the tags of the code
pub all_single : (tags : List (EscapedStr × EscapedStr))
    → list_all is_single_tag (map tag_of tags) ≡ list_all (λ t. is_single_tag (tag_of t)) tags
all_single tags = list_all-map is_single_tag tag_of tags

-- a base by key is not borrowed: it is a text of its own, or there is none
pub not_borrowed : (measurement : List ℕ) (tags : List (Pair Text Text)) → is_borrowed (base_by_key measurement tags) ≡ false
unfolding base_by_key
not_borrowed measurement tags = grind (arith, cases_Bool)

-- a base is a part of the input exactly if the text of the series is its base
pub own_is_borrowed : (raw : List ℕ) (measurement : Text) (tags : List (Pair Text Text))
    → is_borrowed (base_of raw measurement tags) ≡ is_own_base measurement tags
unfolding base_of is_own_base
own_is_borrowed raw measurement tags = grind (arith, cases_Bool, not_borrowed)

-- the test of ambiguous tags gives the same for the tags of the code
pub any_ambiguous : (tags : List (EscapedStr × EscapedStr))
    → list_any is_ambiguous_tag (map tag_of tags) ≡ list_any (λ t. is_ambiguous_tag (tag_of t)) tags
any_ambiguous [] = refl
any_ambiguous (t ∷ tags) = ap (λ (b : Bool). is_ambiguous_tag (tag_of t) || b) (any_ambiguous tags)

-- rules for a search for a repeated key, with one key more
pub ruleset repeat_steps = (common_steps, first_repeated_is, has_more, key_is, length_keys, below_more)
