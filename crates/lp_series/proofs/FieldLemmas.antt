-- The kinds of fields' values, and tags, with one more.
use Rattle.std.proofs.Common.{◌≡◌, ℕ, List, [], ◌∷◌, ◌++◌, Bool, true, false, ◌||◌, ◌&&◌, Some, String, BTreeMap, refl, sym, ap, subst, ◌∙◌, arith}
use Rattle.std.proofs.Common.{◌+◌, ◌<◌, bytes_eq, append_assoc, map, cond, get_or, length, take, string_bytes}
use Rattle.std.specs.{BTreeMap.get_by_text, HashSet.HashSet, HashSet.Updates, HashSet.contains_text, Cmp.Lexicographic.same_text, List.list_any, String.string_eq}
use Rattle.std.proofs.lemmas.{Cmp.nat_list_eq_equiv, Grind.take_at_read, List.map-append, Map.Text.hash_set_updates_text}
use Rattle.influxdb_line_protocol.specs.format.Points.{Field, Tag}
use Rattle.influxdb_line_protocol.specs.format.Values.{Value}
use Rattle.lp_series.specs.declared.kinds.FieldKinds.{FieldKinds}
use Rattle.lp_series.specs.Counting.{HasKinds, HasTags, has_value, is_boolean, is_float, is_integer, is_string, is_tag, is_unsigned, kinds_at}
use Rattle.lp_series.specs.CountSteps.{PutsTag, PutsText, SetsText, kinds_or_none, with_value}

-- a test of some element, with one element more
pub any_push : {X : Type 0} (test : X → Bool) (xs : List X) (x : X) → list_any test (xs ++ x ∷ []) ≡ (list_any test xs || test x)
any_push test [] x = grind arith
any_push test (y ∷ ys) x = grind (arith, any_push test ys x)

-- if no field has a key, none has it with such a value
none_has : (key : List ℕ) (passes : Value (List ℕ) → Bool) (fields : List Field) → list_any (λ f. bytes_eq f.key key) fields ≡ false
    → has_value key passes fields ≡ false
none_has key passes [] none = refl
none_has key passes (f ∷ fields) none = grind (arith, none_has key passes fields)

-- the kinds at the key of a field more
kinds_there : (fields : List Field) (f : Field)
    → Some (with_value (kinds_or_none (kinds_at f.key fields)) f.value) ≡ kinds_at f.key (fields ++ f ∷ [])
kinds_there fields f =
    let same = nat_list_eq_equiv.refl f.key in
    let float = any_push (λ (g : Field). bytes_eq g.key f.key && is_float g.value) fields f in
    let integer = any_push (λ (g : Field). bytes_eq g.key f.key && is_integer g.value) fields f in
    let unsigned = any_push (λ (g : Field). bytes_eq g.key f.key && is_unsigned g.value) fields f in
    let string = any_push (λ (g : Field). bytes_eq g.key f.key && is_string g.value) fields f in
    let boolean = any_push (λ (g : Field). bytes_eq g.key f.key && is_boolean g.value) fields f in
    let any = any_push (λ (g : Field). bytes_eq g.key f.key) fields f in
    grind (arith, none_has f.key)

-- the kinds at another key
kinds_elsewhere : (key : List ℕ) (fields : List Field) (f : Field) → bytes_eq f.key key ≡ false
    → kinds_at key fields ≡ kinds_at key (fields ++ f ∷ [])
kinds_elsewhere key fields f other =
    let float = any_push (λ (g : Field). bytes_eq g.key key && is_float g.value) fields f in
    let integer = any_push (λ (g : Field). bytes_eq g.key key && is_integer g.value) fields f in
    let unsigned = any_push (λ (g : Field). bytes_eq g.key key && is_unsigned g.value) fields f in
    let string = any_push (λ (g : Field). bytes_eq g.key key && is_string g.value) fields f in
    let boolean = any_push (λ (g : Field). bytes_eq g.key key && is_boolean g.value) fields f in
    let any = any_push (λ (g : Field). bytes_eq g.key key) fields f in
    grind arith

-- the kinds have a field more once its key has its kind
pub kinds_more : {Y : Type 0} (old new : BTreeMap (String Y) FieldKinds) (fields : List Field) (f : Field)
    → SetsText old new f.key (with_value (kinds_or_none (get_by_text old f.key)) f.value) → HasKinds old fields
    → HasKinds new (fields ++ f ∷ [])
kinds_more old new fields f sets has key = by_test (bytes_eq f.key key) refl
  where
    -- in both cases of the test
    by_test : (same : Bool) → bytes_eq f.key key ≡ same → get_by_text new key ≡ kinds_at key (fields ++ f ∷ [])
    by_test true same = subst (λ (k : List ℕ). get_by_text new k ≡ kinds_at k (fields ++ f ∷ [])) (same_text f.key key (sym same))
        (grind (arith, sets f.key, has f.key, kinds_there fields f, nat_list_eq_equiv.refl f.key))
    by_test false other = grind (arith, sets key, has key, kinds_elsewhere key fields f other)

-- the tags have one more once it was put there
pub tags_more : {Y S : Type 0} (old new : BTreeMap (String Y) (HashSet (String Y) S)) (tags : List Tag) (t : Tag)
    → PutsTag old new t → HasTags old tags → HasTags new (tags ++ t ∷ [])
tags_more old new tags t puts has = record {
  keys = λ key. grind (arith, puts.keys key, has.keys key, any_push (λ (u : Tag). bytes_eq u.key key) tags t);
  values = λ key value. grind (arith, puts.values key value, has.values key value, any_push (is_tag key value) tags t);
}

-- what is made of one element more of a list stands after what is made of those before it
pub made_more : {X Y Z : Type 0} (h : X → Y) (g : Y → Z) (before : List Z) (xs : List X) (i : ℕ) (x : X) → i < length xs → x ≡ get_or xs i x
    → (before ++ map g (map h (take i xs))) ++ g (h x) ∷ [] ≡ before ++ map g (map h (take (i + 1) xs))
made_more {X} {Y} {Z} h g before xs i x below is =
    let taken : take (i + 1) xs ≡ take i xs ++ x ∷ [] = grind (arith, take_at_read) in
    append_assoc before (map g (map h (take i xs))) (g (h x) ∷ [])
    ∙ ap (λ (zs : List Z). before ++ zs) (sym (ap (map g) (map-append h (take i xs) (x ∷ [])) ∙ map-append g (map h (take i xs)) (h x ∷ [])))
    ∙ ap (λ (ys : List X). before ++ map g (map h ys)) (sym taken)

-- a text that is put into a set is there
pub set_put : {Y S : Type 0} (old new : HashSet (String Y) S) (key : String Y) (value : List ℕ) → string_bytes key ≡ value
    → Updates string_eq old new key true → PutsText old new value
set_put old new key value is put q =
    let there = hash_set_updates_text (string_bytes key) old new true put q in
    there ∙ ap (λ (bytes : List ℕ). cond (bytes_eq bytes q) true (contains_text old q)) is ∙ or_is (bytes_eq value q) (contains_text old q)
  where
    -- a choice that may be true is an or
    or_is : (a b : Bool) → cond a true b ≡ (a || b)
    or_is true b = refl
    or_is false b = refl
