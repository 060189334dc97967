-- The effect of one more tag on whether the text of a series is its base.
use Rattle.std.proofs.Common.{◌≡◌, ℕ, ◌<◌, ◌&&◌, true, List, [], ◌∷◌, ◌++◌, length, refl, sym, ap, ◌∙◌, arith, is_lt, nat_cmp, Bool}
use Rattle.std.proofs.lemmas.{Bool.cases_Bool, List.Folds.list_all-append, List.map_push}
use Rattle.std.proofs.Math.Bool.{and_assoc, and-true}
use Rattle.std.specs.{Cmp.Lexicographic.slice_cmp}
use Rattle.lp_format.specs.{code.Light.is_single_tag, format.Pair, format.Text, format.reads, format.NameKind, format.name, format.tag}
use Rattle.lp_format.specs.format.{a_tag_key, a_tag_value, without_escapes}
use Rattle.lp_values.proofs.lemmas.fields.ReadingLemmas.{name_parts, pair_parts}
use Rattle.lp_events.specs.declared.bases.Kept.{Kept}
use Rattle.lp_events.specs.code.OwnBases.{IsKeptOf, is_own_base, is_strictly_sorted, keys_of, last_of}

-- a spelling that is not empty has a logical text that is not empty
logical_some : (known text : List ℕ) → 0 < length text → 0 < length (without_escapes known text)
unfolding without_escapes
logical_some known text some = grind (arith, cases_Bool)

-- a name that was read is not empty
name_some : (kind : NameKind) (text : List ℕ) (t : Text) (rest : List ℕ) → name kind text ≡ reads t rest → 0 < length t.bytes
unfolding name
name_some kind text t rest e = grind (arith, cases_Bool, name_parts, logical_some)

-- the key of a tag that was read is not empty
pub key_some : (text : List ℕ) (t : Pair Text Text) (rest : List ℕ) → tag text ≡ reads t rest → 0 < length t.key.bytes
unfolding tag
key_some text t rest e = name_some a_tag_key text t.key _ (pair_parts a_tag_key (name a_tag_value) text t rest e).key

-- texts with one more at the end are strictly sorted exactly if the others are and the last of them is less than it
sorted_more : (keys : List (List ℕ)) (k : List ℕ) → 0 < length k
    → is_strictly_sorted (keys ++ k ∷ []) ≡ (is_strictly_sorted keys && is_lt (slice_cmp nat_cmp (last_of keys) k))
sorted_more [] [] some = absurd (omega (arith, some))
sorted_more [] (b ∷ k) some = refl
sorted_more (l ∷ []) k some = and-true (is_lt (slice_cmp nat_cmp l k))
sorted_more (l ∷ m ∷ keys) k some =
    ap (λ b. is_lt (slice_cmp nat_cmp l m) && b) (sorted_more (m ∷ keys) k some)
    ∙ sym (and_assoc (is_lt (slice_cmp nat_cmp l m)) (is_strictly_sorted (m ∷ keys)) (is_lt (slice_cmp nat_cmp (last_of (m ∷ keys)) k)))

-- the last of some texts with one more at the end is this one
last_more : (keys : List (List ℕ)) (k : List ℕ) → last_of (keys ++ k ∷ []) ≡ k
last_more [] k = refl
last_more (l ∷ []) k = refl
last_more (l ∷ m ∷ keys) k = last_more (m ∷ keys) k

-- the last key of tags is the key of the last tag
pub last_key : (tags : List (Pair Text Text)) (t : Pair Text Text) → last_of (keys_of (tags ++ t ∷ [])) ≡ t.key.bytes
last_key tags t = ap last_of (map_push (λ (t : Pair Text Text). t.key.bytes) tags t) ∙ last_more (keys_of tags) t.key.bytes

-- the text of a series with one more tag is its base exactly if it was before, no name of the tag is a copy, and its key is greater than the
-- last key
pub base_more : (m : Text) (tags : List (Pair Text Text)) (t : Pair Text Text) → 0 < length t.key.bytes
    → is_own_base m (tags ++ t ∷ []) ≡ (is_own_base m tags && (is_single_tag t && is_lt (slice_cmp nat_cmp (last_of (keys_of tags)) t.key.bytes)))
unfolding is_own_base
base_more m tags t some =
    rw (map_push (λ (t : Pair Text Text). t.key.bytes) tags t, sorted_more (keys_of tags) t.key.bytes some, list_all-append is_single_tag tags (t ∷ []))
    (grind (arith, cases_Bool))

-- the data after one more tag is the data of the series with this tag, if it compares the keys and tells of copies
pub kept_more : (m : Text) (tags : List (Pair Text Text)) (t : Pair Text Text) (before after : Kept) (single greater : Bool)
    → 0 < length t.key.bytes → IsKeptOf m tags before → single ≡ is_single_tag t
    → (single ≡ true → after.last.now ≡ t.key.bytes)
    → greater ≡ is_lt (slice_cmp nat_cmp before.last.now after.last.now)
    → after.is_base ≡ (before.is_base && single && greater) → IsKeptOf m (tags ++ t ∷ []) after
kept_more m tags t before after single greater some kept one text rises is = record {
  is_base = grind (arith, cases_Bool, base_more, kept.is_base, kept.last);
  last = λ base. grind (arith, cases_Bool, last_key);
}
