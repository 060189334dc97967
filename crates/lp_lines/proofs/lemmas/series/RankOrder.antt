-- Ranks rise with the texts: tags that are sorted by their ranks first are sorted by their keys.
use Rattle.std.proofs.Common.{true, ◌≡◌, ℕ, zero, suc, ◌+◌, ◌-◌, ◌*◌, ◌^◌, ◌<◌, ◌≤◌, List, [], ◌∷◌, length, get_or, drop, take, ◌++◌, map, refl, sym, ap, ◌∙◌, arith, min}
use Rattle.std.proofs.Common.{Less, Equal, Greater, Ordering, nat_cmp, Bor}
use Rattle.std.specs.List.{AllByRecursion}
use Rattle.std.proofs.lemmas.List.{take-append-drop, Elements.recursion_from_All}
use Rattle.std.specs.{Cmp.Lexicographic.slice_cmp, Ordering.ordering_then, Ordering.ordering_reverse}
use Rattle.lp_values.specs.{declared.escaped.EscapedStr.EscapedStr, code.Texts.text_of}
use Rattle.std.specs.Int.{w64, from_be_bytes}
use Rattle.std.proofs.Math.Nat.{mul-le-mul_right}
use Rattle.std.proofs.lemmas.{Bool.cases_Bool, Cmp.nat_list_cmp_total}
use Rattle.lp_lines.specs.code.Ranks.{AreSorted, HasFront, IsFrontLen, lent_of, lent_rank, rank_of, rank_within, ranked, ranked_key}
use Rattle.lp_lines.specs.code.{Keys.placed_by, Keys.sorted_by, Parsed.tag_of}
use Rattle.lp_lines.specs.code.Bases.{by_key, first_repeated, in_order}
use Rattle.lp_events.specs.code.OwnBases.{is_strictly_sorted, keys_of}
use Rattle.lp_lines.specs.laws.BaseLaws.{entry_keys}
use Rattle.lp_lines.proofs.lemmas.series.SortedByKey.{all_sorted, map_sorted}
use Rattle.lp_lines.proofs.lemmas.series.SortedTags.{passes_rise, rise_once}

-- a power of 256 is not zero
power_some : (n : ℕ) → 1 ≤ 256 ^ n
power_some zero = omega arith
power_some (suc n) = omega (arith, power_some n)

-- a rank of `n` bytes is below 256 to the power of `n`
rank_fits : (n : ℕ) (text : List ℕ) → rank_within n text < 256 ^ n
rank_fits zero text = omega arith
rank_fits (suc n) [] = omega (arith, power_some (suc n))
rank_fits (suc n) (b ∷ text) = omega (arith, power_some (suc n))

-- the rank of a text with one more byte before it
pub rank_more : (n b : ℕ) (text : List ℕ) → b < 256 → rank_within (suc n) (b ∷ text) ≡ b * 256 ^ n + rank_within n text
rank_more n b text byte =
    let next : b + 1 ≤ 256 = omega arith in
    let most = mul-le-mul_right (256 ^ n) next in
    omega (arith, rank_fits n text)

-- a number with a greater first byte is not less
not_less : (p m x y a b : ℕ) → b < p → y < x → min (x * p + a) m < min (y * p + b) m → ⊥
not_less p m x y a b fits greater less =
    let next : y + 1 ≤ x = omega arith in
    let most = mul-le-mul_right p next in
    omega arith

-- a text with a first byte that is not greater is less, if it is less after equal first bytes
by_first : (x y : ℕ) (xs ys : List ℕ) → (y < x → ⊥) → (x ≡ y → slice_cmp nat_cmp xs ys ≡ Less) → slice_cmp nat_cmp (x ∷ xs) (y ∷ ys) ≡ Less
by_first x y xs ys before later = grind (arith, cases_Bool)

-- a text with a lesser rank is less
pub less_by_rank : (n : ℕ) (xs ys : List ℕ) → rank_within n xs < rank_within n ys → slice_cmp nat_cmp xs ys ≡ Less
less_by_rank zero xs ys less = absurd (omega arith)
less_by_rank (suc n) [] [] less = absurd (omega arith)
less_by_rank (suc n) [] (y ∷ ys) less = refl
less_by_rank (suc n) (x ∷ xs) [] less = absurd (omega arith)
less_by_rank (suc n) (x ∷ xs) (y ∷ ys) less = by_first x y xs ys
    (λ greater. not_less (256 ^ n) (256 ^ suc n - 1) x y (rank_within n xs) (rank_within n ys) (rank_fits n ys) greater less)
    (λ same. let first : x * 256 ^ n ≡ y * 256 ^ n = ap (λ z. z * 256 ^ n) same in less_by_rank n xs ys (omega arith))

-- the rank of a text from a place on, by the byte at this place
rank_at : (text : List ℕ) (i n : ℕ) → get_or text i 0 < 256
    → rank_within (suc n) (drop i text) ≡ get_or text i 0 * 256 ^ n + rank_within n (drop (suc i) text)
rank_at [] zero zero byte = omega arith
rank_at [] zero (suc n) byte = omega arith
rank_at [] (suc i) zero byte = omega arith
rank_at [] (suc i) (suc n) byte = omega arith
rank_at (b ∷ text) zero n byte = rank_more n b text byte
rank_at (b ∷ text) (suc i) n byte = rank_at text i n byte

-- the rank of a text is the number of its first eight bytes
pub rank_is : (text : List ℕ) → ((i : ℕ) → get_or text i 0 < 256) → (n : ℕ) → n ≡ from_be_bytes w64
    (get_or text 0 0 ∷ get_or text 1 0 ∷ get_or text 2 0 ∷ get_or text 3 0 ∷ get_or text 4 0 ∷ get_or text 5 0 ∷ get_or text 6 0 ∷ get_or text 7 0 ∷ [])
    → n ≡ rank_of text
rank_is text small n is =
    let a = rank_at text 0 7 (small 0) in
    let b = rank_at text 1 6 (small 1) in
    let c = rank_at text 2 5 (small 2) in
    let d = rank_at text 3 4 (small 3) in
    let e = rank_at text 4 3 (small 4) in
    let f = rank_at text 5 2 (small 5) in
    let g = rank_at text 6 1 (small 6) in
    let h = rank_at text 7 0 (small 7) in
    omega arith

-- a comparison by a number first changes nothing, if the order of the numbers agrees with the comparison
by_number : (m n : ℕ) (o : Ordering) → (m < n → o ≡ Less) → (n < m → ordering_reverse o ≡ Less) → ordering_then (nat_cmp m n) o ≡ o
by_number m n Less below above = grind (arith, cases_Bool)
by_number m n Equal below above = grind (arith, cases_Bool)
by_number m n Greater below above = grind (arith, cases_Bool)

-- texts with equal fronts are in the order of the texts after the fronts
front_same : (front xs ys : List ℕ) → slice_cmp nat_cmp (front ++ xs) (front ++ ys) ≡ slice_cmp nat_cmp xs ys
front_same [] xs ys = refl
front_same (b ∷ front) xs ys = grind (arith, cases_Bool, front_same front xs ys)

-- texts with equal fronts, after the ranks of the texts after the fronts, are in their own order
after_front : (front xs ys : List ℕ)
    → slice_cmp nat_cmp (rank_of xs ∷ front ++ xs) (rank_of ys ∷ front ++ ys) ≡ slice_cmp nat_cmp (front ++ xs) (front ++ ys)
after_front front xs ys = by_number (rank_of xs) (rank_of ys) (slice_cmp nat_cmp (front ++ xs) (front ++ ys))
    (λ below. front_same front xs ys ∙ less_by_rank 8 xs ys below)
    (λ above. sym (nat_list_cmp_total.antisymm (front ++ ys) (front ++ xs)) ∙ front_same front ys xs ∙ less_by_rank 8 ys xs above)

-- a text that begins with a front is the front and the text after it
front_and_rest : (front xs : List ℕ) → take (length front) xs ≡ front → xs ≡ front ++ drop (length front) xs
front_and_rest front xs has = sym (take-append-drop (length front) xs) ∙ ap (λ (ys : List ℕ). ys ++ drop (length front) xs) has

-- texts that begin with one front, after the ranks of the texts after it, are in their own order
by_rank : (front xs ys : List ℕ) → take (length front) xs ≡ front → take (length front) ys ≡ front
    → slice_cmp nat_cmp (rank_of (drop (length front) xs) ∷ xs) (rank_of (drop (length front) ys) ∷ ys) ≡ slice_cmp nat_cmp xs ys
by_rank front xs ys has also =
    let n = length front in
    let one = front_and_rest front xs has in
    let two = front_and_rest front ys also in
    ap (λ zs. slice_cmp nat_cmp (rank_of (drop n xs) ∷ zs) (rank_of (drop n ys) ∷ ys)) one
    ∙ ap (λ zs. slice_cmp nat_cmp (rank_of (drop n xs) ∷ front ++ drop n xs) (rank_of (drop n ys) ∷ zs)) two
    ∙ after_front front (drop n xs) (drop n ys)
    ∙ sym (ap (λ zs. slice_cmp nat_cmp zs ys) one ∙ ap (λ zs. slice_cmp nat_cmp (front ++ drop n xs) zs) two)

module _ {X : Type 0} (P : X → Type 0) (key other : X → List ℕ)
    (same : (x y : X) → P x → P y → slice_cmp nat_cmp (key x) (key y) ≡ slice_cmp nat_cmp (other x) (other y)) where
  -- an element goes to the same place by two keys that are in the same order
  placed_same : (x : X) (ys : List X) → P x → AllByRecursion P ys → placed_by key x ys ≡ placed_by other x ys
  placed_same x [] h all = refl
  placed_same x (y ∷ ys) h all = rw (same y x all.0 h, placed_same x ys h all.1) refl

  -- elements are sorted alike by two keys that are in the same order
  sorted_same : (xs : List X) → AllByRecursion P xs → sorted_by key xs ≡ sorted_by other xs
  sorted_same [] all = refl
  sorted_same (x ∷ xs) all = placed_same x (sorted_by key xs) all.0 (all_sorted key P xs all.1) ∙ ap (placed_by other x) (sorted_same xs all.1)

-- tags with their ranks, sorted, are the sorted tags with their ranks
pub ranked_sorted : (rs : List (ℕ × Bor (EscapedStr × EscapedStr))) (len : ℕ) (tags : List (EscapedStr × EscapedStr)) → IsFrontLen len tags
    → map lent_rank rs ≡ map (ranked len) tags → AreSorted (map lent_rank (sorted_by (λ r. ranked_key (lent_rank r)) rs)) tags
ranked_sorted rs len tags (front, is, all) are = (
  len,
  (front, is, all),
  map_sorted lent_rank ranked_key rs ∙ ap (sorted_by ranked_key) are ∙ sym (map_sorted (ranked len) ranked_key tags) ∙ ap (map (ranked len))
      (sorted_same (HasFront front) (λ t. ranked_key (ranked len t)) (λ t. text_of t.0)
      (λ t u has also. rw is (by_rank front (text_of t.0) (text_of u.0) has also)) tags (recursion_from_All (HasFront front) tags all)),
)

-- the texts of the key and the value of a tag
abbrev names : EscapedStr × EscapedStr → List ℕ × List ℕ
names t = (text_of t.0, text_of t.1)

-- the entries of tags that are lent are the texts of their names
lent_names : (rs : List (ℕ × Bor (EscapedStr × EscapedStr))) → in_order (map lent_of rs) ≡ map (λ p. names p.1) (map lent_rank rs)
lent_names [] = refl
lent_names (r ∷ rs) = ap (λ (es : List (List ℕ × List ℕ)). names r.1.now ∷ es) (lent_names rs)

-- the entries of ranked tags are the texts of the names of the tags
ranked_names : (len : ℕ) (ts : List (EscapedStr × EscapedStr)) → map (λ p. names p.1) (map (ranked len) ts) ≡ map names ts
ranked_names len [] = refl
ranked_names len (t ∷ ts) = ap (λ (es : List (List ℕ × List ℕ)). names t ∷ es) (ranked_names len ts)

-- the entries of tags are the texts of their names
tag_names : (ts : List (EscapedStr × EscapedStr)) → in_order (map tag_of ts) ≡ map names ts
tag_names [] = refl
tag_names (t ∷ ts) = ap (λ (es : List (List ℕ × List ℕ)). names t ∷ es) (tag_names ts)

-- the entries of sorted tags are the tags in the order of their keys
sorted_names : (tags : List (EscapedStr × EscapedStr)) → map names (sorted_by (λ t. text_of t.0) tags) ≡ by_key (map tag_of tags)
unfolding by_key
sorted_names tags = map_sorted names (λ e. e.0) tags ∙ ap (sorted_by (λ e. e.0)) (sym (tag_names tags))

-- tags that are lent and were sorted by their ranks are the tags in the order of their keys
pub ranked_by_key : (rs : List (ℕ × Bor (EscapedStr × EscapedStr))) (tags : List (EscapedStr × EscapedStr))
    → AreSorted (map lent_rank rs) tags → in_order (map lent_of rs) ≡ by_key (map tag_of tags)
ranked_by_key rs tags (len, front, are) =
    lent_names rs ∙ ap (map (λ p. names p.1)) are ∙ ranked_names len (sorted_by (λ t. text_of t.0) tags) ∙ sorted_names tags

-- keys with their ranks before them rise exactly if the keys rise
rise_alike : (front : List ℕ) (ts : List (EscapedStr × EscapedStr)) → AllByRecursion (HasFront front) ts
    → is_strictly_sorted (map ranked_key (map (ranked (length front)) ts)) ≡ is_strictly_sorted (entry_keys (map names ts))
rise_alike front [] all = refl
rise_alike front (t ∷ []) all = refl
rise_alike front (t ∷ u ∷ ts) all =
    rw (by_rank front (text_of t.0) (text_of u.0) all.0 all.1.0, rise_alike front (u ∷ ts) all.1) refl

-- the keys of ranked tags that are lent are the keys of the ranked tags
lent_keys : (rs : List (ℕ × Bor (EscapedStr × EscapedStr))) → map (λ r. ranked_key (lent_rank r)) rs ≡ map ranked_key (map lent_rank rs)
lent_keys [] = refl
lent_keys (r ∷ rs) = ap (λ (ks : List (List ℕ)). ranked_key (lent_rank r) ∷ ks) (lent_keys rs)

-- no key is repeated if the ranked keys rise
pub ranked_once : (rs : List (ℕ × Bor (EscapedStr × EscapedStr))) (tags : List (EscapedStr × EscapedStr))
    → AreSorted (map lent_rank rs) tags → is_strictly_sorted (map (λ r. ranked_key (lent_rank r)) rs) ≡ true
    → first_repeated (keys_of (map tag_of tags)) ≡ length (map tag_of tags)
ranked_once rs tags (len, (front, is, all), are) rise =
    let sorted = sorted_by (λ t. text_of t.0) tags in
    let fronts = all_sorted (λ t. text_of t.0) (HasFront front) tags (recursion_from_All (HasFront front) tags all) in
    let past = rw is at are in
    rise_once (map tag_of tags) (passes_rise (by_key (map tag_of tags)) (sym (ap is_strictly_sorted (lent_keys rs ∙ ap (map ranked_key) past)
    ∙ rise_alike front sorted fronts ∙ ap (λ es. is_strictly_sorted (entry_keys es)) (sorted_names tags)) ∙ rise))
