-- The gaps of a portable line, and its time.
use Rattle.std.proofs.Common.{◌≡◌, ◌≢◌, ℕ, ℤ, pos, negsuc, List, [], ◌∷◌, length, take, drop, true, false, ◌==◌, ◌||◌, refl, ap, ◌∙◌, arith, inl, inr, Option, Some, None, Ok, Result}
use Rattle.std.proofs.Common.{one-add, eqb-true, eq-eqb, ne_eqb, length-drop}
use Rattle.std.proofs.lemmas.{Bool.cases_Bool, Bool.eqb-false, Grind.common_steps, List.Sums.prefix_len-le-length}
use Rattle.std.specs.{Str.Parse.signed_digits_value}
use Rattle.lp_format.specs.format.{Fault, Read, fits_i64, integer_len, is_one_of, nul, reads, space, spaces, tab, timestamp}
use Rattle.lp_portable.specs.format.Portable.{is_outside}
use Rattle.lp_portable.proofs.HeldBytes.{neither}
use Rattle.lp_influx.specs.format.InfluxLines.{influx_time, without_gap}

-- a number begins with a digit or a minus, and no gap holds either
number_first : (b : ℕ) (text : List ℕ) → integer_len (b ∷ text) ≢ 0 → is_one_of (space ∷ tab ∷ nul ∷ []) b ≡ false
number_first b text some = grind (arith, common_steps, cases_Bool)

-- spaces before a text that has no gap at its start are the gap
pub spaces_are_gap : (text : List ℕ) → without_gap (drop (spaces text) text) ≡ drop (spaces text) text → without_gap text ≡ drop (spaces text) text
spaces_are_gap [] h = refl
spaces_are_gap (b ∷ text) h = elim (cases_Bool (b == space)) [
  | inl here ↦
      let is = eqb-true b space here in
      let more = spaces_are_gap text (rw (here, one-add) at h) in
      rw (here, one-add, is, one-add) more
  | inr other ↦ rw other (rw other at h)
]

-- a number has no gap at its start
number_no_gap : (text : List ℕ) → integer_len text ≢ 0 → without_gap text ≡ text
number_no_gap [] some = refl
number_no_gap (b ∷ text) some = rw (number_first b text some) refl

-- a text that begins with a number is not empty
number_some : (text : List ℕ) → integer_len text ≢ 0 → (length text == 0) ≡ false
number_some [] some = absurd (some refl)
number_some (b ∷ text) some = ne_eqb (length (b ∷ text)) 0 (λ e. absurd (omega (arith, e)))

-- If two answers are equal, their values and their rests are equal.
pub same_read : (x y : Read (Option ℤ)) → (let r : Result (Read (Option ℤ)) Fault = Ok x in r) ≡ Ok y → (x.value ≡ y.value) × (x.rest ≡ y.rest)
same_read x y e = let same : x ≡ y = cc in (ap (λ (r : Read (Option ℤ)). r.value) same, ap (λ (r : Read (Option ℤ)). r.rest) same)

-- a text of spaces alone is as long as its spaces
all_spaces : (text : List ℕ) → drop (spaces text) text ≡ [] → (length text == spaces text) ≡ true
all_spaces text e = eq-eqb (length text) (spaces text)
    (omega (arith, length-drop (spaces text) text, ap length e, prefix_len-le-length (λ b. b == space) text))

-- the time of a line that is not out of the range of times is read
pub time_alike : (text : List ℕ) (t : Option ℤ) → timestamp text ≡ Ok (record { value = t; rest = [] })
    → is_outside (negsuc 9223372036854775805) (pos 9223372036854775806) t ≡ false → influx_time text ≡ reads t []
time_alike text t e inside =
    let a = drop (spaces text) text in
    let n = integer_len a in
    let z = signed_digits_value 10 (take n a) in
    let end = drop n a in
    elim (cases_Bool (spaces text == 0 || n == 0)) [
      | inl none ↦
          let same = same_read (record { value = None; rest = text }) (record { value = t; rest = [] }) (rw none at e) in
          rw (same.1, ← same.0) refl
      | inr some ↦
          let number = neither (spaces text == 0) (n == 0) some in
          let there : n ≢ 0 = eqb-false n 0 number.1 in
          elim (cases_Bool (fits_i64 z)) [
            | inr over ↦ let never = rw (some, over) at e in absurd (cc)
            | inl fits ↦
                let same = same_read (record { value = Some z; rest = drop (spaces end) end }) (record { value = t; rest = [] }) (rw (some, fits) at e) in
                let gap = spaces_are_gap text (number_no_gap a there) in
                let kept : is_outside (negsuc 9223372036854775805) (pos 9223372036854775806) (Some z) ≡ false =
                ap (is_outside (negsuc 9223372036854775805) (pos 9223372036854775806)) same.0 ∙ inside in
                rw (gap, number_some a there, number.1, kept, all_spaces end same.1, same.0) refl
          ]
    ]
