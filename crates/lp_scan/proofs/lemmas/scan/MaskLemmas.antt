-- Masks of loads and of places: the parts of a mask, the meaning of its bits, and operations on it.
use Rattle.std.proofs.Common.{◌≡◌, ℕ, zero, suc, ◌+◌, ◌-◌, ◌*◌, ◌/◌, ◌^◌, ◌<◌, ◌≤◌, Bool, true, cond, not, List, [], ◌∷◌, map, length, take}
use Rattle.std.proofs.Common.{drop, sym, ap, ◌∙◌, arith, ◌%◌, ◌++◌, get_or, refl, inl, inr, take-append-drop, subst, drop-drop, length-take}
use Rattle.std.proofs.Common.{w64, min, max, false, ◌&&◌, ◌||◌, bit_and, bit_or, bit_xor, ap₂}
use Rattle.std.proofs.Math.Nat.{pow-le-pow_right, mod-eq_of_lt}
use native.Mathlib.Nat.{pow-suc, mul_comm, zero-div, div-one, div-div-eq-div-mul, add-mul-mod_self_right}
use Rattle.std.proofs.lemmas.Simd.{length-chunk, first_set_mask_l, run_in_chunk_le, run_in_chunk_fails, run_in_chunk_stops}
use Rattle.std.proofs.lemmas.Simd.{map-map, mask_l-mod, get_or-chunk, mask_l-lt}
use Rattle.std.proofs.lemmas.{List.drop-take, List.drop-map, List.drop_all, List.length-map, List.get_or_past, Bool.cases_lt}
use Rattle.std.proofs.lemmas.{Bool.agree_below, Bool.agree_below_at, Nat.Bits.bit_at-trailing_zeros, Nat.Bits.bit_at_above}
use Rattle.std.proofs.lemmas.{List.FromFn.length-map-range_with_len}
use Rattle.std.specs.{List.prefix_len, List.range_with_len, Int.bit_at, Int.bit_not, Int.trailing_zeros}
use lib.Lanes.{chunk, mask_l, top}
use Rattle.lp_scan.specs.code.{first_set, mask_of, IsRunIn, mask_at}
use lib.Bits.{and_step, or_step, xor_step, differ, and_mask}
use lib.Pow.{pow_pos}

-- half of a mask is the mask without its lowest bit
half : (b : Bool) (n : ℕ) → (cond b 1 0 + 2 * n) / 2 ≡ n
half b n = grind arith

-- a mask without its lowest bits is the mask of the lanes after them
pub mask_l-drop : (ms : List Bool) (k : ℕ) → mask_l ms / 2 ^ k ≡ mask_l (drop k ms)
mask_l-drop [] zero = zero-div (2 ^ 0)
mask_l-drop [] (suc k) = zero-div (2 ^ suc k)
mask_l-drop (m ∷ ms) zero = div-one (mask_l (m ∷ ms))
mask_l-drop (m ∷ ms) (suc k) =
    ap (λ n. mask_l (m ∷ ms) / n) (pow-suc 2 k ∙ mul_comm (2 ^ k) 2) ∙ sym (div-div-eq-div-mul (mask_l (m ∷ ms)) 2 (2 ^ k))
    ∙ ap (λ n. n / 2 ^ k) (half m (mask_l ms)) ∙ mask_l-drop ms k

module _ (test : ℕ → Bool) (bytes : List ℕ) (at n : ℕ) where
  -- the mask of a load, shifted by `k`, is the mask of its bytes after the first `k`
  pub shifted : (k : ℕ) → k ≤ n → mask_of test bytes at n / 2 ^ k ≡ mask_of test bytes (at + k) (n - k)
  shifted k within =
      mask_l-drop (map test (chunk at n bytes)) k
      ∙ ap mask_l (drop-map test k (chunk at n bytes)
      ∙ ap (map test) (
      ap (λ m. drop k (take m (drop at bytes))) (omega arith) ∙ drop-take k (n - k) (drop at bytes)
      ∙ ap (take (n - k)) (drop-drop k at bytes)))

  -- the lowest bit of the mask is the first byte of the load that passes the test
  pub lowest : at + n ≤ length bytes → n ≤ 64 → first_set (mask_of test bytes at n) n ≡ prefix_len (λ b. not (test b)) (chunk at n bytes)
  lowest room few = first_set_mask_l test (chunk at n bytes) n (length-chunk at n bytes room) few

-- if two tests agree on each byte of a list, they give one list of answers
map_agree : (f g : ℕ → Bool) (v : List ℕ) → ((k : ℕ) → f (get_or v k 0) ≡ g (get_or v k 0)) → map f v ≡ map g v
map_agree f g [] same = refl
map_agree f g (x ∷ v) same = grind (arith, same 0, map_agree f g v (λ k. same (suc k)))

module _ (test : ℕ → Bool) (bytes : List ℕ) (at n : ℕ) (room : at + n ≤ length bytes) (few : n ≤ 64) where
  -- each byte of a load is below 256
  in_load : ((k : ℕ) → get_or bytes k 0 < 256) → (k : ℕ) → get_or (chunk at n bytes) k 0 < 256
  in_load fits k = grind (arith, cases_lt, get_or-chunk, get_or_past, length-chunk)

  -- two tests that agree on each of the 256 bytes have the same mask
  pub mask_same : (other : ℕ → Bool) → ((k : ℕ) → get_or bytes k 0 < 256) → agree_below test other 256 ≡ true
      → mask_of test bytes at n ≡ mask_of other bytes at n
  mask_same other fits all =
      let v = chunk at n bytes in
      ap mask_l (map_agree test other v (λ k. agree_below_at test other 256 (get_or v k 0) all (in_load fits k)))

  -- if a lane is set exactly if its byte passes the test, the bits of the lanes are the mask
  pub mask_by_lanes : (f : ℕ → ℕ) → ((x : ℕ) → top 7 (f x) ≡ test x) → (z : List ℕ) → z ≡ map f (chunk at n bytes)
      → mask_l (map (top 7) z) % 2 ^ 64 ≡ mask_of test bytes at n
  mask_by_lanes f same z lanes =
      let v = chunk at n bytes in
      ap (λ (l : List Bool). mask_l l % 2 ^ 64)
      (ap (map (top 7)) lanes ∙ map-map (top 7) f v ∙ ap (λ (g : ℕ → Bool). map g v) (λ j x. same x j))
      ∙ mask_l-mod (map test v) 64 (omega (arith, length-map v test, length-chunk at n bytes room))

  -- the lowest bit of the mask is the number of bytes before the first that passes the test
  pub run_is : (r : ℕ) → r ≡ first_set (mask_of test bytes at n) n → IsRunIn (λ b. not (test b)) bytes at n r
  run_is r found = grind (arith, lowest, run_in_chunk_le, run_in_chunk_fails, run_in_chunk_stops)

-- the mask of a load has no bit after the last byte of the load
after : (test : ℕ → Bool) (bytes : List ℕ) (at n k : ℕ) → at + n ≤ length bytes → n ≤ k → mask_of test bytes at n / 2 ^ k ≡ 0
after test bytes at n k room past = grind (arith, mask_l-drop, drop_all, length-map, length-chunk)

-- the lowest bit of a mask from a place on is the number of bytes from this place on before the first that passes the test
pub next_is : (test : ℕ → Bool) (bytes : List ℕ) (at n k r : ℕ) → at + n ≤ length bytes → n ≤ 64
    → r ≡ first_set (mask_of test bytes at n / 2 ^ k) (n - k) → IsRunIn (λ b. not (test b)) bytes (at + k) (n - k) r
next_is test bytes at n k r room few found =
    elim (cases_lt n k) [
      | inl past ↦
          let none : r ≡ 0 = found ∙ ap (λ m. first_set m (n - k)) (after test bytes at n k room (omega arith)) ∙ omega arith in
          (omega arith, λ j from to. absurd (omega arith), λ short. absurd (omega arith))
      | inr inside ↦
          run_is test bytes (at + k) (n - k) (omega arith) (omega arith) r
          (found ∙ ap (λ m. first_set m (n - k)) (shifted test bytes at n k inside))
    ]

-- the mask of two lists of lanes is the mask of the first with the mask of the second above it
mask_l-append : (xs ys : List Bool) → mask_l (xs ++ ys) ≡ mask_l xs + mask_l ys * 2 ^ length xs
mask_l-append [] ys = omega arith
mask_l-append (x ∷ xs) ys = rw (pow-suc 2 (length xs)) (omega (arith, mask_l-append xs ys))

-- the lowest bits of a mask are the mask of its first lanes
pub mask_mod : (ms : List Bool) (k : ℕ) → k ≤ length ms → mask_l ms % 2 ^ k ≡ mask_l (take k ms)
mask_mod ms k within =
    let long : length (take k ms) ≡ k = length-take k ms ∙ omega arith in
    let whole : mask_l ms ≡ mask_l (take k ms) + mask_l (drop k ms) * 2 ^ k =
    ap mask_l (sym (take-append-drop k ms)) ∙ mask_l-append (take k ms) (drop k ms)
    ∙ ap (λ (n : ℕ). mask_l (take k ms) + mask_l (drop k ms) * 2 ^ n) long in
    ap (λ (n : ℕ). n % 2 ^ k) whole ∙ add-mul-mod_self_right (mask_l (take k ms)) (mask_l (drop k ms)) (2 ^ k)
    ∙ mask_l-mod (take k ms) k (omega (arith, long))

-- numbers from a place on, without the first `k`, are the numbers from `k` places further on
drop_range : (k at n m : ℕ) → k + m ≡ n → drop k (range_with_len at n) ≡ range_with_len (at + k) m
drop_range zero at n m e = grind arith
drop_range (suc k) at zero m e = absurd (omega arith)
drop_range (suc k) at (suc n) m e = grind (arith, drop_range k (at + 1) n m)

-- a mask of `n` places is below 2 to the power of `n`
pub mask_fits : (p : ℕ → Bool) (at n : ℕ) → mask_at p at n < 2 ^ n
mask_fits p at n = subst (λ (k : ℕ). mask_at p at n < 2 ^ k) (length-map-range_with_len p at n) (mask_l-lt (map p (range_with_len at n)))

-- a mask without its lowest `k` bits is the mask of the places after the first `k`
pub mask_after : (p : ℕ → Bool) (at n k m : ℕ) → k + m ≡ n → mask_at p at n / 2 ^ k ≡ mask_at p (at + k) m
mask_after p at n k m e = grind (arith, mask_l-drop, drop-map, drop_range)

-- the lowest bit of a mask below 2 to the power of `n` is below `n`
pub tz_below : (m n r : ℕ) → m < 2 ^ n → n ≤ 64 → 0 < m → r ≡ trailing_zeros w64 m → r < n
tz_below m n r below few some lowest = elim (cases_lt r n) [
  | inl inside ↦ inside
  | inr past ↦
      let fits : m < 2 ^ 64 = omega (arith, below, pow-le-pow_right {n = 2} (omega arith) few) in
      let set : bit_at m r ≡ 1 = ap (bit_at m) lowest ∙ (bit_at-trailing_zeros w64 m some fits).1 in
      absurd (omega (arith, set, bit_at_above m n r below past))
]

-- whether exactly one of the two is true
abbrev pub differs : Bool → Bool → Bool
differs true b = not b
differs false b = b

-- the remainder of a mask by 2 is its lowest bit
low : (b : Bool) (n : ℕ) → (cond b 1 0 + 2 * n) % 2 ≡ cond b 1 0
low b n = grind arith

-- an operation that works on each bit by itself works on each lane by itself
module _ (op digit : ℕ → ℕ → ℕ) (both : Bool → Bool → Bool) (none : op 0 0 ≡ 0)
    (step : (a b : ℕ) → op a b ≡ op (a / 2) (b / 2) * 2 + digit (a % 2) (b % 2))
    (one : (x y : Bool) → digit (cond x 1 0) (cond y 1 0) ≡ cond (both x y) 1 0) {V : Type 0} (f g : V → Bool) where
  -- an operation on the masks of two tests gives the mask of the operation on the tests
  by_lanes : (vs : List V) → op (mask_l (map f vs)) (mask_l (map g vs)) ≡ mask_l (map (λ v. both (f v) (g v)) vs)
  by_lanes [] = none
  by_lanes (v ∷ vs) =
      let highs = ap₂ op (half (f v) (mask_l (map f vs))) (half (g v) (mask_l (map g vs))) ∙ by_lanes vs in
      let lows = ap₂ digit (low (f v) (mask_l (map f vs))) (low (g v) (mask_l (map g vs))) ∙ one (f v) (g v) in
      step (mask_l (map f (v ∷ vs))) (mask_l (map g (v ∷ vs))) ∙ ap₂ (λ (a b : ℕ). a * 2 + b) highs lows ∙ omega arith

-- operations on the masks of two tests of the same values
module _ {V : Type 0} (f g : V → Bool) where
  -- the and of the masks of two tests is the mask of both
  pub and_of_maps : (vs : List V) → bit_and (mask_l (map f vs)) (mask_l (map g vs)) ≡ mask_l (map (λ v. f v && g v) vs)
  and_of_maps = by_lanes bit_and min (λ a b. a && b) refl and_step (grind arith) f g

  -- the or of the masks of two tests is the mask of either
  pub or_of_maps : (vs : List V) → bit_or (mask_l (map f vs)) (mask_l (map g vs)) ≡ mask_l (map (λ v. f v || g v) vs)
  or_of_maps = by_lanes bit_or max (λ a b. a || b) refl or_step (grind arith) f g

  -- the exclusive or of the masks of two tests is the mask of exactly one of them
  pub xor_of_maps : (vs : List V) → bit_xor (mask_l (map f vs)) (mask_l (map g vs)) ≡ mask_l (map (λ v. differs (f v) (g v)) vs)
  xor_of_maps = by_lanes bit_xor differ differs refl xor_step (grind arith) f g

-- the mask of the lanes that are not set and the mask of the lanes that are set add up to all ones
mask_not : (ms : List Bool) → mask_l (map not ms) + mask_l ms + 1 ≡ 2 ^ length ms
mask_not [] = refl
mask_not (m ∷ ms) = grind (arith, pow-suc, mask_not ms)

-- the complement of the mask of a test of 64 values is the mask of the values that fail it
pub not_of_map : {V : Type 0} (f : V → Bool) (vs : List V) → length vs ≡ 64
    → bit_not w64 (mask_l (map f vs)) ≡ mask_l (map (λ v. not (f v)) vs)
not_of_map f vs long = grind (arith, mask_not, length-map, map-map)

-- the lowest `n` bits of a number are its remainder by 2 to the power of `n`
pub below_is : (m n : ℕ) → n < 64 → bit_and m (1 * 2 ^ n % 2 ^ 64 - 1) ≡ m % 2 ^ n
below_is m n few =
    let more : 2 ^ suc n ≤ 2 ^ 64 = pow-le-pow_right {n = 2} (omega arith) few in
    let fits : 1 * 2 ^ n < 2 ^ 64 = omega (arith, more, pow-suc 2 n, pow_pos n) in
    let one : 1 * 2 ^ n % 2 ^ 64 ≡ 2 ^ n = mod-eq_of_lt fits ∙ omega arith in
    ap (λ (k : ℕ). bit_and m (k - 1)) one ∙ and_mask m n
