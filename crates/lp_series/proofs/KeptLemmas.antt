-- The points of kept series, with one point more.
use Rattle.std.proofs.Common.{◌≡◌, ℕ, ◌+◌, ◌<◌, List, [], ◌∷◌, ◌++◌, Bool, true, false, not, ◌&&◌}
use Rattle.std.proofs.Common.{refl, sym, ap, ◌∙◌, arith, bytes_eq, append-nil, map, cond}
use Rattle.std.specs.{Cmp.Lexicographic.same_text}
use Rattle.std.specs.List.{AllByRecursion, count_by, filter, flat_map, list_any}
use Rattle.std.proofs.lemmas.{Cmp.nat_list_eq_equiv, List.Elements.filter-append, List.Sums.sum_by-append, List.Sums.sum_by_push}
use Rattle.std.proofs.lemmas.{List.Folds.list_any-append}
use Rattle.influxdb_line_protocol.specs.format.Points.{Point, Tag}
use Rattle.lp_lines.specs.laws.KeyLaws.{KeysTellSeries}
use Rattle.lp_series.specs.Counting.{different, is_tag, key_of}
use Rattle.lp_series.proofs.FieldLemmas.{any_push}

-- a count with one element more
pub count_push : {X : Type 0} (test : X → Bool) (xs : List X) (x : X) → count_by test (xs ++ x ∷ []) ≡ count_by test xs + cond (test x) 1 0
count_push test xs x = sum_by_push _ xs x

-- a filter keeps one element more
pub filter_yes : {X : Type 0} (test : X → Bool) (xs : List X) (x : X) → test x ≡ true → filter test (xs ++ x ∷ []) ≡ filter test xs ++ x ∷ []
filter_yes test xs x passes = let apart = filter-append test xs (x ∷ []) in grind arith

-- a filter leaves one element more out
pub filter_no : {X : Type 0} (test : X → Bool) (xs : List X) (x : X) → test x ≡ false → filter test (xs ++ x ∷ []) ≡ filter test xs
filter_no test xs x fails = let apart = filter-append test xs (x ∷ []) in grind (arith, append-nil)

-- two tests agree on each of these
abbrev pub Agree : {X : Type 0} → (X → Bool) → (X → Bool) → List X → Type 0
Agree test other xs = AllByRecursion (λ x. test x ≡ other x) xs

-- tests that agree everywhere agree on these
pub agree_all : {X : Type 0} (test other : X → Bool) → ((x : X) → test x ≡ other x) → (xs : List X) → Agree test other xs
agree_all test other all [] = tt
agree_all test other all (x ∷ xs) = (all x, agree_all test other all xs)

-- tests that agree keep the same elements
pub filter_agree : {X : Type 0} (test other : X → Bool) (xs : List X) → Agree test other xs → filter test xs ≡ filter other xs
filter_agree test other [] agree = refl
filter_agree test other (x ∷ xs) agree = grind (arith, agree.0, filter_agree test other xs agree.1)

-- a count of a list by its first element
pub count_cons : {X : Type 0} (test : X → Bool) (x : X) (xs : List X) → count_by test (x ∷ xs) ≡ cond (test x) 1 0 + count_by test xs
count_cons {X} test x xs = let split = sum_by-append (λ (y : X). cond (test y) 1 0) (x ∷ []) xs in omega (arith, split)

-- tests that agree count the same elements
pub count_agree : {X : Type 0} (test other : X → Bool) (xs : List X) → Agree test other xs
    → count_by (λ x. not (test x)) xs ≡ count_by (λ x. not (other x)) xs
count_agree test other [] agree = refl
count_agree {X} test other (x ∷ xs) agree =
    count_cons (λ (y : X). not (test y)) x xs
    ∙ ap (λ b. cond (not b) 1 0 + count_by (λ y. not (test y)) xs) agree.0
    ∙ ap (λ n. cond (not (other x)) 1 0 + n) (count_agree test other xs agree.1)
    ∙ sym (count_cons (λ (y : X). not (other y)) x xs)

-- if none is counted as failing, all pass
pub all_pass : {X : Type 0} (test : X → Bool) (xs : List X) → count_by (λ x. not (test x)) xs ≡ 0 → AllByRecursion (λ x. test x ≡ true) xs
all_pass test [] none = tt
all_pass {X} test (x ∷ xs) none = by_test (test x) refl (λ rest. all_pass test xs rest)
  where
    -- what is tested is tested of both parts
    split : cond (not (test x)) 1 0 + count_by (λ y. not (test y)) xs ≡ 0
    split = sym (count_cons (λ (y : X). not (test y)) x xs) ∙ none

    -- in both cases of the test
    by_test : (passes : Bool) → test x ≡ passes → (count_by (λ y. not (test y)) xs ≡ 0 → AllByRecursion (λ y. test y ≡ true) xs)
        → AllByRecursion (λ y. test y ≡ true) (x ∷ xs)
    by_test true here others =
        let sum : 0 + count_by (λ y. not (test y)) xs ≡ 0 = sym (ap (λ b. cond (not b) 1 0 + count_by (λ y. not (test y)) xs) here) ∙ split in
        (here, others (omega (arith, sum)))
    by_test false here others =
        let one : 1 + count_by (λ y. not (test y)) xs ≡ 0 = sym (ap (λ b. cond (not b) 1 0 + count_by (λ y. not (test y)) xs) here) ∙ split in
        absurd (omega (arith, one))

-- a test of texts against one is the test of one against texts
any_swap : (u : List ℕ) (us : List (List ℕ)) → list_any (λ v. bytes_eq v u) us ≡ list_any (bytes_eq u) us
any_swap u [] = refl
any_swap u (v ∷ us) = grind (arith, any_swap u us, nat_list_eq_equiv.symm v u)

-- how many texts differ, with one text more
pub different_push : (texts : List (List ℕ)) (text : List ℕ)
    → different (texts ++ text ∷ []) ≡ different texts + cond (list_any (λ t. bytes_eq t text) texts) 0 1
different_push [] text = refl
different_push (t ∷ texts) text = by_test (different_push texts text) (bytes_eq t text) refl
  where
    -- in both cases of the test
    by_test : different (texts ++ text ∷ []) ≡ different texts + cond (list_any (λ u. bytes_eq u text) texts) 0 1
        → (same : Bool) → bytes_eq t text ≡ same
        → different (t ∷ (texts ++ text ∷ [])) ≡ different (t ∷ texts) + cond (list_any (λ u. bytes_eq u text) (t ∷ texts)) 0 1
    by_test more true same =
        let swapped = any_swap t texts in
        let is : t ≡ text = same_text t text (sym same) in
        grind (arith, more, any_push (bytes_eq t) texts text)
    by_test more false other = grind (arith, more, any_push (bytes_eq t) texts text)

-- a test of what is made of elements is the test of each after it is made
pub any_map : {X Z : Type 0} (make : X → Z) (test : Z → Bool) (xs : List X) → list_any test (map make xs) ≡ list_any (λ x. test (make x)) xs
any_map make test [] = refl
any_map make test (x ∷ xs) = grind (arith, any_map make test xs)

-- a test of lists that are joined is the test of some element of each
pub any_flat : {X Z : Type 0} (make : X → List Z) (test : Z → Bool) (xs : List X)
    → list_any test (flat_map make xs) ≡ list_any (λ x. list_any test (make x)) xs
any_flat make test [] = refl
any_flat make test (x ∷ xs) = grind (arith, list_any-append test (make x) (flat_map make xs), any_flat make test xs)

-- a test of elements that are kept is both tests of some element
pub any_filter : {X : Type 0} (keep test : X → Bool) (xs : List X) → list_any test (filter keep xs) ≡ list_any (λ x. keep x && test x) xs
any_filter keep test [] = refl
any_filter keep test (x ∷ xs) = grind (arith, any_filter keep test xs)

-- a test that some counted element passes
pub any_counted : {X : Type 0} (counts test : X → Bool) (xs : List X) → 0 < count_by counts xs
    → ((x : X) → counts x ≡ true → test x ≡ true) → list_any test xs ≡ true
any_counted counts test [] some follows = absurd (omega (arith, some))
any_counted counts test (x ∷ xs) some follows = by_test (count_cons counts x xs) (counts x) refl (λ rest. any_counted counts test xs rest follows)
  where
    -- in both cases of the test
    by_test : count_by counts (x ∷ xs) ≡ cond (counts x) 1 0 + count_by counts xs → (here : Bool) → counts x ≡ here
        → (0 < count_by counts xs → list_any test xs ≡ true) → list_any test (x ∷ xs) ≡ true
    by_test split true here others = grind (arith, follows x here)
    by_test split false here others =
        let rest : 0 < count_by counts xs = grind (arith, split, here, some) in
        grind (arith, others rest)

-- a test that no counted element passes
pub none_counted : {X : Type 0} (test : X → Bool) (xs : List X) → AllByRecursion (λ x. test x ≡ false) xs → list_any test xs ≡ false
none_counted test [] none = refl
none_counted test (x ∷ xs) none = grind (arith, none.0, none_counted test xs none.1)

-- some element passes exactly if some is kept
any_kept : {X : Type 0} (keep : X → Bool) (xs : List X) → list_any (λ x. true) (filter keep xs) ≡ list_any keep xs
any_kept keep [] = refl
any_kept keep (x ∷ xs) = grind (arith, any_kept keep xs)

-- points of one series have the same tag keys
pub keys_alike : KeysTellSeries → (p q : Point) → key_of q ≡ key_of p → (key : List ℕ)
    → list_any (λ t. bytes_eq t.key key) q.tags ≡ list_any (λ t. bytes_eq t.key key) p.tags
keys_alike tell p q same key =
    let alike = (tell q.measurement p.measurement q.tags p.tags).0 same in
    sym (any_kept (λ (t : Tag). bytes_eq t.key key) q.tags) ∙ ap (list_any (λ (t : Tag). true)) (alike.tags_are key)
    ∙ any_kept (λ (t : Tag). bytes_eq t.key key) p.tags

-- points of one series have the same tags
pub tags_alike : KeysTellSeries → (p q : Point) → key_of q ≡ key_of p → (key value : List ℕ)
    → list_any (is_tag key value) q.tags ≡ list_any (is_tag key value) p.tags
tags_alike tell p q same key value =
    let alike = (tell q.measurement p.measurement q.tags p.tags).0 same in
    sym (any_filter (λ (t : Tag). bytes_eq t.key key) (λ (t : Tag). bytes_eq t.value value) q.tags)
    ∙ ap (list_any (λ (t : Tag). bytes_eq t.value value)) (alike.tags_are key)
    ∙ any_filter (λ (t : Tag). bytes_eq t.key key) (λ (t : Tag). bytes_eq t.value value) p.tags

-- if no element passes, none that is kept does
pub none_kept : {X : Type 0} (keep test : X → Bool) (xs : List X) → AllByRecursion (λ x. test x ≡ false) xs
    → AllByRecursion (λ x. test x ≡ false) (filter keep xs)
none_kept keep test [] none = tt
none_kept {X} keep test (x ∷ xs) none = by_test (keep x) (none_kept keep test xs none.1)
  where
    -- in both cases of the test
    by_test : (keeps : Bool) → AllByRecursion (λ y. test y ≡ false) (filter keep xs)
        → AllByRecursion (λ y. test y ≡ false) (cond keeps (x ∷ filter keep xs) (filter keep xs))
    by_test true others = (none.0, others)
    by_test false others = others

-- if no element passes, none is counted
pub none_count : {X : Type 0} (test : X → Bool) (xs : List X) → AllByRecursion (λ x. test x ≡ false) xs → count_by test xs ≡ 0
none_count test [] none = refl
none_count test (x ∷ xs) none =
    let sum : count_by test (x ∷ xs) ≡ 0 + count_by test xs = count_cons test x xs ∙ ap (λ b. cond b 1 0 + count_by test xs) none.0 in
    let others = none_count test xs none.1 in
    omega (arith, sum, others)
