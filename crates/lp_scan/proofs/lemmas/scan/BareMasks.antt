-- The escaped bytes of a load, by the borrow of one subtraction, and the bare marks of a load, by their mask.
use Rattle.std.proofs.Common.{◌≡◌, ℕ, zero, suc, ◌+◌, ◌-◌, ◌/◌, ◌%◌, ◌^◌, ◌<◌, ◌≤◌, Bool, true, false, cond, not, map, List, ◌∷◌, length}
use Rattle.std.proofs.Common.{take, get_or, slice_index, bit_and, count_ones, refl, sym, ap, ap₂, ◌∙◌, subst, arith, inl, inr, ◌==◌, w64}
use Rattle.std.proofs.Common.{count_by, ◌*◌, ◌&&◌, ◌||◌, [], bit_or, bit_xor}
use Rattle.std.proofs.Math.Bool.{and_comm}
use Rattle.std.specs.{Int.bit_not, List.range_with_len, List.prefix_len}
use Rattle.std.proofs.lemmas.List.FromFn.{length-range_with_len, length-map-range_with_len, get_or-range_with_len}
use Rattle.std.proofs.lemmas.List.FromFn.{get_or-map-range_with_len, take-map-range_with_len}
use Rattle.std.proofs.lemmas.{Bool.cases_Bool, Bool.cases_lt, Bool.and_parts, Bool.and_right, Bool.not-true, Bool.not-false}
use Rattle.std.proofs.lemmas.{List.length-map, List.Sums.prefix_len-le-length, List.Sums.prefix_len_passes, List.Sums.prefix_len_stops}
use Rattle.std.proofs.lemmas.Simd.{first_set_mask_l, bit_mask_l, mask_l-lt, ones-mask_l, map-map, pick_l-range_with_len}
use lib.Lanes.{mask_l}
use Rattle.lp_format.specs.format.{is_escaped_after, is_bare_at, IsBareAfter, backslash}
use Rattle.lp_scan.specs.code.{first_set, mask_at, IsBarePassed, TellsEscaped, TellsBare, mask_of}
use Rattle.lp_format.proofs.lemmas.tokens.EscapeLemmas.{is_escaped_more}
use native.Mathlib.Nat.{pow-suc}
use Rattle.lp_scan.proofs.lemmas.scan.MaskLemmas.{differs, and_of_maps, or_of_maps, xor_of_maps, not_of_map, mask_mod, mask_fits}

-- In this file, `ms` are the backslashes from a place on, `odd` says whether this place is odd, `after` whether a backslash comes before it,
-- and `e` whether it is escaped.

-- a place of a load: whether it is odd, comes after a backslash, is escaped, and is a backslash
record Place : Type 0 where
  odd : Bool
  after : Bool
  escaped : Bool
  slash : Bool

-- the places of a load, by its backslashes
abbrev places : Bool → Bool → Bool → List Bool → List Place
places odd after e [] = []
places odd after e (m ∷ ms) = record { odd = odd; after = after; escaped = e; slash = m } ∷ places (not odd) m (not e && m) ms

-- whether each of `n` places is odd, by whether the first is
abbrev odds : Bool → ℕ → List Bool
odds odd zero = []
odds odd (suc n) = odd ∷ odds (not odd) n

-- odd places and even places alternate
alternate : (odd after e : Bool) (ms : List Bool) → map (λ p. p.odd) (places odd after e ms) ≡ odds odd (length ms)
alternate odd after e [] = refl
alternate odd after e (m ∷ ms) = ap (λ l. odd ∷ l) (alternate (not odd) m (not e && m) ms)

-- the backslashes of the places are the backslashes of the load
slashes : (odd after e : Bool) (ms : List Bool) → map (λ p. p.slash) (places odd after e ms) ≡ ms
slashes odd after e [] = refl
slashes odd after e (m ∷ ms) = ap (λ l. m ∷ l) (slashes (not odd) m (not e && m) ms)

-- the mask of the places after a backslash is the mask of the backslashes, shifted by one place
shifted : (odd after e : Bool) (ms : List Bool)
    → (k : ℕ) × (mask_l (map (λ p. p.after) (places odd after e ms)) + 2 ^ length ms * k ≡ cond after 1 0 + 2 * mask_l ms)
shifted odd after e [] = (cond after 1 0, omega arith)
shifted odd after e (m ∷ ms) =
    let (k, rest) = shifted (not odd) m (not e && m) ms in
    (k, rw (pow-suc 2 (length ms)) (omega (arith, rest)))

-- whether the subtraction borrows from a place: from an odd place if it is escaped, from an even place if it is bare and comes after a
-- backslash
abbrev borrow : Bool → Bool → Bool → Bool
borrow true after e = e
borrow false after e = after && not e

-- the bit that the subtraction leaves at a place
abbrev left : Place → Bool
left p = differs (differs p.escaped p.odd) p.slash

-- the subtraction takes the backslashes and one borrow from the mask of the places that are odd or come after a backslash, and gives the
-- bits that are left
subtracted : (odd after e : Bool) (ms : List Bool) → (e && not after) ≡ false
    → (k : ℕ) × (mask_l (map (λ p. p.after || p.odd) (places odd after e ms)) + 2 ^ length ms * k
    ≡ mask_l (map left (places odd after e ms)) + mask_l ms + cond (borrow odd after e) 1 0)
subtracted odd after e [] h = (cond (borrow odd after e) 1 0, omega arith)
subtracted odd after e (m ∷ ms) h =
    let (k, rest) = subtracted (not odd) m (not e && m) ms (grind arith) in
    let here : cond (after || odd) 1 0 + 2 * cond (borrow (not odd) m (not e && m)) 1 0 ≡ cond (differs (differs e odd) m) 1 0
    + cond m 1 0 + cond (borrow odd after e) 1 0 = grind arith in
    (k, rw (pow-suc 2 (length ms)) (omega (arith, rest, here)))

-- undoing the two differences tells whether a place is escaped
undone : (p : Place) → differs (differs (left p) p.odd) p.slash ≡ p.escaped
undone p = grind arith

-- the mask of the odd places of 64
abbrev odd_places : ℕ
odd_places = 0xAAAA_AAAA_AAAA_AAAA

module _ (ms : List Bool) (long : length ms ≡ 64) where
  -- the places of 64 bytes whose first is bare
  abbrev ps : List Place
  ps = places false false false ms

  -- a mask of 64 places fits 64 bits
  fits : (f : Place → Bool) → mask_l (map f ps) < 2 ^ 64
  fits f = subst (λ (n : ℕ). mask_l (map f ps) < 2 ^ n)
      (length-map ps f ∙ sym (length-map ps (λ p. p.slash)) ∙ ap length (slashes false false false ms) ∙ long) (mask_l-lt (map f ps))

  -- the mask of the backslashes among the places is the mask of the backslashes of the load
  slashes_are : mask_l (map (λ p. p.slash) ps) ≡ mask_l ms
  slashes_are = ap mask_l (slashes false false false ms)

  -- the constant is the mask of the odd places
  odds_are : mask_l (map (λ p. p.odd) ps) ≡ odd_places
  odds_are = ap mask_l (alternate false false false ms) ∙ ap (λ (n : ℕ). mask_l (odds false n)) long

  -- the minuend of the subtraction is the mask of the places that are odd or come after a backslash
  minuend_is : bit_or (mask_l ms * 2 % 2 ^ 64) odd_places ≡ mask_l (map (λ p. p.after || p.odd) ps)
  minuend_is =
      let (k, whole) = shifted false false false ms in
      let fit = fits (λ p. p.after) in
      let afters : mask_l ms * 2 % 2 ^ 64 ≡ mask_l (map (λ p. p.after) ps) = omega (arith, rw long at whole, fit) in
      ap₂ bit_or afters (sym odds_are) ∙ or_of_maps (λ p. p.after) (λ p. p.odd) ps

  -- the subtraction gives the mask of the bits that are left
  left_is : (bit_or (mask_l ms * 2 % 2 ^ 64) odd_places + (2 ^ 64 - mask_l ms)) % 2 ^ 64 ≡ mask_l (map left ps)
  left_is =
      let (k, whole) = subtracted false false false ms refl in
      let from = fits (λ p. p.after || p.odd) in
      let rest = fits left in
      let less = fits (λ p. p.slash) in
      ap (λ (n : ℕ). (n + (2 ^ 64 - mask_l ms)) % 2 ^ 64) minuend_is ∙ omega (arith, rw long at whole, from, rest, less, slashes_are)

  -- the subtraction and the two differences give the mask of the escaped places, if the first place is bare
  pub escapes_are : bit_xor
      (bit_xor ((bit_or (mask_l ms * 2 % 2 ^ 64) odd_places + (2 ^ 64 - mask_l ms)) % 2 ^ 64) odd_places)
      (mask_l ms) ≡ mask_l (map (λ p. p.escaped) ps)
  escapes_are =
      ap₂ bit_xor (ap₂ bit_xor left_is (sym odds_are) ∙ xor_of_maps left (λ p. p.odd) ps) (sym slashes_are)
      ∙ xor_of_maps (λ p. differs (left p) p.odd) (λ p. p.slash) ps ∙ ap (λ (f : Place → Bool). mask_l (map f ps)) (λ j p. undone p j)

-- the places of a text from a place on
module _ (text : List ℕ) where
  -- the places that are escaped by `places` are the escaped places of the text
  escaped_places : (n at : ℕ) (odd after e : Bool) → at + n ≤ length text → is_escaped_after (take at text) ≡ e
      → map (λ p. p.escaped) (places odd after e (map (λ k. slice_index text k == backslash) (range_with_len at n)))
      ≡ map (λ k. is_escaped_after (take k text)) (range_with_len at n)
  escaped_places zero at odd after e room is = refl
  escaped_places (suc n) at odd after e room is =
      let m = slice_index text at == backslash in
      let next : is_escaped_after (take (at + 1) text) ≡ (not e && m) = is_escaped_more text at (omega arith) ∙ ap (λ f. not f && m) is in
      ap₂ (λ (b : Bool) (bs : List Bool). b ∷ bs) (sym is) (escaped_places n (at + 1) (not odd) m (not e && m) (omega arith) next)

  -- the mask of bytes that pass a test is the mask of their places
  pub of_places : (test : ℕ → Bool) (at n : ℕ) → at + n ≤ length text
      → mask_of test text at n ≡ mask_at (λ k. test (slice_index text k)) at n
  of_places test at n room =
      ap (λ (v : List ℕ). mask_l (map test v)) (sym (pick_l-range_with_len 0 text at n room))
      ∙ ap mask_l (map-map test (λ k. get_or text k 0) (range_with_len at n))

-- the subtraction gives the mask of the escaped bytes of a load that begins at a bare place
pub tells_escaped : (m r : ℕ)
    → r ≡ bit_xor (bit_xor ((bit_or (m * 2 % 2 ^ 64) odd_places + (2 ^ 64 - m)) % 2 ^ 64) odd_places) m → TellsEscaped m r
tells_escaped m r made text at room bare is =
    let ms = map (λ k. slice_index text k == backslash) (range_with_len at 64) in
    let places : m ≡ mask_l ms = is ∙ of_places text (λ b. b == backslash) at 64 room in
    let long : length ms ≡ 64 = length-map (range_with_len at 64) (λ k. slice_index text k == backslash) ∙ length-range_with_len at 64 in
    made ∙ ap (λ (n : ℕ). bit_xor (bit_xor ((bit_or (n * 2 % 2 ^ 64) odd_places + (2 ^ 64 - n)) % 2 ^ 64) odd_places) n) places
    ∙ escapes_are ms long ∙ ap mask_l (escaped_places text 64 at false false false room bare)

-- the marks that are not escaped are the bare marks
pub tells_bare : (marks m e r : ℕ) → TellsEscaped m e → r ≡ bit_and marks (bit_not w64 e) → TellsBare marks m r
tells_bare marks m e r escaped made test text at room bare is marked =
    let places = range_with_len at 64 in
    let passes : ℕ → Bool = λ k. test (slice_index text k) in
    let is_escaped : ℕ → Bool = λ k. is_escaped_after (take k text) in
    made ∙ ap₂ (λ (a b : ℕ). bit_and a (bit_not w64 b)) (marked ∙ of_places text test at 64 room) (escaped text at room bare is)
    ∙ ap (bit_and (mask_l (map passes places))) (not_of_map is_escaped places (length-range_with_len at 64))
    ∙ and_of_maps passes (λ k. not (is_escaped k)) places

-- the lowest bit of a mask is the first place that passes
module _ (p : ℕ → Bool) (at n r : ℕ) (few : n ≤ 64) (found : r ≡ first_set (mask_at p at n) n) where
  -- the places are as many as the bytes
  long : length (range_with_len at n) ≡ n
  long = length-range_with_len at n

  -- the lowest bit is the number of places before the first that passes
  counted : r ≡ prefix_len (λ k. not (p k)) (range_with_len at n)
  counted = found ∙ first_set_mask_l p (range_with_len at n) n long few

  -- the lowest bit is a place of the load, or one past it
  pub lowest_within : r ≤ n
  lowest_within = omega (arith, counted, long, prefix_len-le-length (λ k. not (p k)) (range_with_len at n))

  -- no place before the lowest bit passes
  pub none_before : (k : ℕ) → at ≤ k → k < at + r → p k ≡ false
  none_before k from to =
      let place : at + (k - at) ≡ k = omega arith in
      let there = prefix_len_passes (λ j. not (p j)) (range_with_len at n) (k - at) 0 (omega (arith, counted)) in
      not-true (p k) (rw (get_or-range_with_len at n (k - at) 0 (omega (arith, lowest_within)), place) at there)

  -- the place of the lowest bit passes
  pub lowest_passes : r < n → p (at + r) ≡ true
  lowest_passes short =
      let there = prefix_len_stops (λ j. not (p j)) (range_with_len at n) 0 (omega (arith, counted, long)) in
      not-false (p (at + r)) (rw (← counted, get_or-range_with_len at n r 0 short) at there)

-- the highest bit of a mask of 64 places tells whether the last place passes
pub highest : (p : ℕ → Bool) (at : ℕ) → mask_at p at 64 / 2 ^ 63 ≡ cond (p (at + 63)) 1 0
highest p at =
    let ms = map p (range_with_len at 64) in
    let bit : mask_l ms / 2 ^ 63 % 2 ≡ cond (p (at + 63)) 1 0 =
    bit_mask_l ms 63 ∙ ap (λ (t : Bool). cond t 1 0) (get_or-map-range_with_len p at 64 63 (at + 63) false (omega arith) refl) in
    omega (arith, mask_fits p at 64)

-- the bits that are set among the lowest `n` of a mask count the places that pass among the first `n`
pub ones_low : (p : ℕ → Bool) (at w n : ℕ) → n ≤ w → count_ones (mask_at p at w % 2 ^ n) ≡ count_by p (range_with_len at n)
ones_low p at w n few = grind (arith, mask_mod, length-map-range_with_len, take-map-range_with_len, ones-mask_l)

-- mapping the places from `at + 1` on is mapping the next place of each place from `at` on
range_next : {X : Type 0} (f : ℕ → X) (n at : ℕ) → map f (range_with_len (at + 1) n) ≡ map (λ k. f (k + 1)) (range_with_len at n)
range_next f zero at = refl
range_next f (suc n) at = ap (λ (rest : List _). f (at + 1) ∷ rest) (range_next f n (at + 1))

-- the mask of the places from `at + 1` on is the mask of the next place of each place from `at` on
pub mask_next : (p : ℕ → Bool) (at n : ℕ) → mask_at p (at + 1) n ≡ mask_at (λ k. p (k + 1)) at n
mask_next p at n = ap mask_l (range_next p n at)

-- only a bare backslash escapes what comes after it
pub escapes_next : (text : List ℕ) (k : ℕ) → k < length text → is_escaped_after (take (k + 1) text) ≡ is_bare_at (λ b. b == backslash) text k
escapes_next text k h = is_escaped_more text k h ∙ and_comm (not (is_escaped_after (take k text))) (slice_index text k == backslash)

-- an escaped byte is not bare
pub escaped_is_not_bare : (passes : ℕ → Bool) (text : List ℕ) (k : ℕ) → is_escaped_after (take k text) ≡ true
    → is_bare_at passes text k ≡ false
escaped_is_not_bare passes text k h = and_right (passes (slice_index text k)) (not (is_escaped_after (take k text))) (ap not h)

-- the bytes after a load that begins at a bare place: a bare backslash at its end escapes one byte, and then comes a bare place
module _ (text : List ℕ) (at : ℕ) (room : at + 64 < length text) (last : ℕ)
    (is : last ≡ cond (is_bare_at (λ b. b == backslash) text (at + 63)) 1 0) where
  -- the byte after a load is escaped exactly if the last byte of the load is a bare backslash
  flag : is_escaped_after (take (at + 64) text) ≡ is_bare_at (λ b. b == backslash) text (at + 63)
  flag = grind (arith, escapes_next)

  -- a load escapes at most one byte after it
  pub at_most_one : last ≤ 1
  at_most_one = grind (arith, cases_Bool)

  -- a load that ends in a bare backslash escapes the byte after it
  pub one_escaped : 0 < last → is_escaped_after (take (at + 64) text) ≡ true
  one_escaped some = grind (arith, cases_Bool, flag)

  -- the next load begins at a bare place
  pub next_bare : IsBareAfter (take (at + (64 + last)) text)
  next_bare = grind (arith, cases_Bool, escapes_next, escaped_is_not_bare, flag)

-- a load that begins at a bare place, by the mask of its bare stops
module _ (passes : ℕ → Bool) (text : List ℕ) (at : ℕ) (room : at + 64 < length text) (p : IsBarePassed passes text at) where
  -- the number of bytes before the first bare stop
  module _ (r : ℕ) (found : r ≡ first_set (mask_at (is_bare_at passes text) at 64) 64) where
    -- no bare byte before the lowest bit passes
    none_to : (k : ℕ) → k < at + r → is_bare_at passes text k ≡ false
    none_to k to = elim (cases_lt k at) [
      | inl early ↦ p.none k early
      | inr late ↦ none_before (is_bare_at passes text) at 64 r (omega arith) found k late to
    ]

    -- the byte at the lowest bit is a bare stop, if a bit is set
    here : r < 64 → (passes (slice_index text (at + r)) ≡ true) × (not (is_escaped_after (take (at + r) text)) ≡ true)
    here short = and_parts _ _ (lowest_passes (is_bare_at passes text) at 64 r (omega arith) found short)

    -- the byte at the lowest bit is the first bare stop
    pub to_stop : r < 64 → IsBarePassed passes text (at + r) × (passes (slice_index text (at + r)) ≡ true)
    to_stop short = grind (arith, not-true, here, none_to)

    -- if no bit is set, the next load begins at a bare place, with no bare stop before it
    pub to_next : (last : ℕ) → 64 ≤ r → last ≡ cond (is_bare_at (λ b. b == backslash) text (at + 63)) 1 0
        → IsBarePassed passes text (at + (64 + last))
    to_next last far is = record {
      within = omega (arith, at_most_one text at room last is);
      is_bare = next_bare text at room last is;
      none = λ k to. elim (cases_lt k (at + 64)) [
        | inl before ↦ none_to k (omega arith)
        | inr after ↦
            let place : k ≡ at + 64 = omega (arith, at_most_one text at room last is) in
            ap (is_bare_at passes text) place ∙ escaped_is_not_bare passes text (at + 64) (one_escaped text at room last is (omega arith))
      ];
    }
