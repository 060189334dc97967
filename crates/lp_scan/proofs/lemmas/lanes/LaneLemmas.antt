-- The lanes of a load after a comparison with bytes.
use Rattle.std.proofs.Common.{◌≡◌, ℕ, ◌+◌, ◌<◌, ◌≤◌, ◌%◌, ◌^◌, Bool, true, List, map, length, replicate, eqb, cond, bit_or, ◌||◌, get_or}
use Rattle.std.proofs.Common.{slice_index_or, refl, sym, ap, ◌∙◌, map-id, arith, [], ◌∷◌, ◌*◌, ◌/◌, ap₂, leb, suc, w8}
use Rattle.std.proofs.lemmas.Simd.{length-chunk, zip2_splat, zip2_of_maps, swz_l}
use Rattle.std.proofs.lemmas.{Bool.agree_below, Bool.cases_lt, List.get_or_past}
use Rattle.lp_format.specs.format.Bytes.{is_one_of}
use lib.Lanes.{chunk, mask_l, top, zip2}
use Rattle.lp_scan.{specs.code.mask_of, proofs.lemmas.scan.MaskLemmas.mask_by_lanes, proofs.lemmas.scan.MaskLemmas.mask_same}

-- `swizzle_dyn` gives the byte of the table at each index, and 0 for an index past the end of the table
pub looked_up : (table : List ℕ) → length table ≤ 128 → (js : List ℕ) (i : ℕ) → i + length js ≤ 16
    → swz_l w8 16 table i js ≡ map (λ j. get_or table j 0) js
looked_up table few [] i fits = refl
looked_up table few (j ∷ js) i fits =
    let here : cond (leb 128 j) 0 (get_or table (16 * (i / 16) + j) 0) ≡ get_or table j 0 = grind (arith, cases_lt, get_or_past) in
    ap₂ (λ (x : ℕ) l. x ∷ l) here (looked_up table few js (suc i) (omega arith))

-- a comparison of lanes: with one byte, with the byte that is looked up for each lane, or with either of two comparisons
pub data Compared : Type 0 where
  one : ℕ → Compared
  looked : (ℕ → ℕ) → Compared
  either : Compared → Compared → Compared

-- the lanes that a comparison gives
abbrev pub lanes_in : Compared → ℕ → List ℕ → List ℕ
lanes_in (one b) n v = zip2 (λ x y. cond (eqb x y) 255 0) v (replicate n b)
lanes_in (looked look) n v = zip2 (λ x y. cond (eqb x y) 255 0) (map look v) v
lanes_in (either s t) n v = zip2 bit_or (lanes_in s n v) (lanes_in t n v)

-- whether a byte passes a comparison
abbrev pub is_in : Compared → ℕ → Bool
is_in (one b) x = eqb x b
is_in (looked look) x = eqb (look x) x
is_in (either s t) x = is_in s x || is_in t x

-- a lane that is set in one of two lists is set in their or
either_set : (e f : Bool) → bit_or (cond e 255 0) (cond f 255 0) ≡ cond (e || f) 255 0
either_set e f = grind arith

-- the top bit of a lane tells whether it is set
top_set : (e : Bool) → top 7 (cond e 255 0) ≡ e
top_set e = grind arith

-- a lane is set exactly if its byte passes the comparison
lanes_are : (t : Compared) (n : ℕ) (v : List ℕ) → length v ≡ n → lanes_in t n v ≡ map (λ x. cond (is_in t x) 255 0) v
lanes_are (one b) n v long = zip2_splat (λ x y. cond (eqb x y) 255 0) v n b long
lanes_are (looked look) n v long = zip2_of_maps (λ x y. cond (eqb x y) 255 0) look (λ x. x) v refl (sym (map-id v))
lanes_are (either s t) n v long =
    zip2_of_maps bit_or _ _ v (lanes_are s n v long) (lanes_are t n v long)
    ∙ ap (λ (f : ℕ → ℕ). map f v) (λ j x. either_set (is_in s x) (is_in t x) j)

-- a comparison with the byte at this place of an array
abbrev pub lane_of : List ℕ → ℕ → Compared
lane_of set i = one (slice_index_or set i 0)

-- a comparison with each of four bytes
abbrev pub any_of_four : List ℕ → Compared
any_of_four set = either (either (lane_of set 0) (lane_of set 1)) (either (lane_of set 2) (lane_of set 3))

-- a comparison with each of five bytes
abbrev pub any_of_five : List ℕ → Compared
any_of_five set = either (lane_of set 0) (either (either (lane_of set 1) (lane_of set 2)) (either (lane_of set 3) (lane_of set 4)))

-- a byte passes a comparison with four bytes exactly if it is one of the four
pub one_of_four : (set : List ℕ) → length set ≡ 4 → (b : ℕ) → is_in (any_of_four set) b ≡ is_one_of set b
one_of_four (v ∷ w ∷ x ∷ y ∷ []) long b = grind arith
one_of_four set long b = absurd (omega arith)

-- a byte passes a comparison with five bytes exactly if it is one of the five
pub one_of_five : (set : List ℕ) → length set ≡ 5 → (b : ℕ) → is_in (any_of_five set) b ≡ is_one_of set b
one_of_five (v ∷ set) long b = grind (arith, one_of_four set (omega (arith, long)) b)
one_of_five [] long b = absurd (omega arith)

module _ (t : Compared) (bytes : List ℕ) (at n : ℕ) (room : at + n ≤ length bytes) (few : n ≤ 64) where
  -- the bits of the lanes are the mask of the bytes that pass the comparison
  pub mask_in : mask_l (map (top 7) (lanes_in t n (chunk at n bytes))) % 2 ^ 64 ≡ mask_of (is_in t) bytes at n
  mask_in = grind (arith, mask_by_lanes, top_set, lanes_are, length-chunk)

  -- the bits of the lanes are the mask of the bytes that pass a test, if the test and the comparison agree at each of the 256 bytes
  pub mask_as : (test : ℕ → Bool) → ((k : ℕ) → get_or bytes k 0 < 256) → agree_below (is_in t) test 256 ≡ true
      → mask_l (map (top 7) (lanes_in t n (chunk at n bytes))) % 2 ^ 64 ≡ mask_of test bytes at n
  mask_as test fits all = mask_in ∙ mask_same (is_in t) bytes at n room few test fits all

-- two tests with the same answer for each byte have the same answers for a text
pub same_tests : (p q : ℕ → Bool) → ((b : ℕ) → p b ≡ q b) → (text : List ℕ) → map p text ≡ map q text
same_tests p q same text = grind arith

-- the mask of the lanes that are compared with each of four bytes
pub mask_of_four : (set text : List ℕ) (at n : ℕ) → length set ≡ 4 → at + n ≤ length text → n ≤ 64
    → mask_l (map (top 7) (lanes_in (any_of_four set) n (chunk at n text))) % 2 ^ 64 ≡ mask_of (is_one_of set) text at n
mask_of_four set text at n long room few =
    mask_in (any_of_four set) text at n room few
    ∙ ap mask_l (same_tests (is_in (any_of_four set)) (is_one_of set) (one_of_four set long) (chunk at n text))
