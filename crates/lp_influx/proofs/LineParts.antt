-- The parts of a line, as the reader in code finds them.
use Rattle.std.proofs.Common.{◌≡◌, ◌<◌, ℕ, ℤ, pos, negsuc, ◌-◌, List, [], ◌∷◌, length, take, true, false, Option, Some, refl, sym, ap, ◌∙◌, arith, inl, inr, codes, FitsSigned, w64}
use Rattle.std.proofs.lemmas.{Bool.cases_Bool, Grind.common_steps}
use Rattle.std.specs.Str.Parse.{IsNumeral, signed_digits_value, without_leading_sign}
use Rattle.lp_format.specs.format.{Pair, Text, Value, byte, hash, integer_len, is_one_of, miss, nul, reads, space, tab}
use Rattle.lp_format.proofs.lemmas.literals.FloatLemmas.{signed_front}
use Rattle.lp_portable.specs.format.Portable.{begins_with, is_outside}
use Rattle.lp_influx.specs.format.InfluxNames.{influx_tags, measurement_at}
use Rattle.lp_influx.specs.format.InfluxFields.{influx_fields}
use Rattle.lp_influx.specs.format.InfluxLines.{Parts, gap_before, influx_line, influx_time, parts_at, point_of_parts, stamp_at, without_gap}
use Rattle.lp_influx.proofs.Literals.{byte_first, signed_numeral}

-- a byte of a gap is left out
pub gap_goes_on : (b : ℕ) (text : List ℕ) → is_one_of (space ∷ tab ∷ nul ∷ []) b ≡ true → without_gap (b ∷ text) ≡ without_gap text
gap_goes_on b text is = rw is (grind (arith, common_steps))

-- another byte ends it
pub gap_ends : (b : ℕ) (text : List ℕ) → is_one_of (space ∷ tab ∷ nul ∷ []) b ≡ false → without_gap (b ∷ text) ≡ b ∷ text
gap_ends b text other = rw other refl

-- how a gap is walked over
pub ruleset gap_steps = (gap_goes_on, gap_ends)

-- a time in range is a number that fits
time_fits : (t : ℤ) → is_outside (negsuc 9223372036854775805) (pos 9223372036854775806) (Some t) ≡ false → FitsSigned w64 t
time_fits (pos n) within = grind (arith, common_steps, cases_Bool)
time_fits (negsuc n) within = grind (arith, common_steps, cases_Bool)

-- A number that does not fit is no time.
pub stamp_over : (text number : List ℕ) (n : ℕ) → n ≡ integer_len text → number ≡ take n text → 0 < n
    → ¬ (IsNumeral 10 (without_leading_sign number) × FitsSigned w64 (signed_digits_value 10 number)) → stamp_at text ≡ miss
stamp_over text number n len front some over =
    let taken : number ≡ take (integer_len text) text = rw (← len) front in
    let any : 0 < integer_len text = rw (← len) some in
    let numeral = signed_numeral number (rw taken (signed_front (codes "-") text any)) in
    let z = signed_digits_value 10 (take (integer_len text) text) in
    elim (cases_Bool (is_outside (negsuc 9223372036854775805) (pos 9223372036854775806) (Some z))) [
      | inl outside ↦ rw outside (grind (arith, cases_Bool))
      | inr within ↦ absurd (over (numeral, rw taken (time_fits z within)))
    ]

-- The parts that are read after the tags.
module _ (line name rest left after start : List ℕ) (tags : List (Pair (List ℕ) (List ℕ))) (gap : ℕ) (m : measurement_at line ≡ reads name rest)
    (t : influx_tags rest ≡ reads tags left) (b : byte space left ≡ reads space after) (s : start ≡ without_gap after) (g : gap ≡ gap_before left start) where
  -- the gap before the fields
  gap_is : without_gap left ≡ start
  gap_is = ap without_gap (byte_first space space left after b) ∙ gap_goes_on space after refl ∙ sym s

  -- without fields there are no parts
  pub no_fields : influx_fields gap start ≡ miss → parts_at line ≡ miss
  no_fields none = rw (m, t, b, gap_is, ← g, none) refl

  -- Without a time in range there are no parts.
  pub no_time : (fields : List (Pair (List ℕ) (Value Text))) (end : List ℕ) → influx_fields gap start ≡ reads fields end → influx_time end ≡ miss
      → parts_at line ≡ miss
  no_time fields end f none = rw (m, t, b, gap_is, ← g, f, none) refl

  -- With fields and a time, the parts of the line are these parts.
  pub parts_are : (fields : List (Pair (List ℕ) (Value Text))) (end : List ℕ) (time : Option ℤ) → influx_fields gap start ≡ reads fields end
      → influx_time end ≡ reads time [] → parts_at line
      ≡ reads (record { measurement = name; tags = tags; series_len = length line - length left; fields = fields; timestamp = time }) []
  parts_are fields end time f at = rw (m, t, b, gap_is, ← g, f, at) refl

-- the point of the parts of a line
pub point_is : (text line : List ℕ) (p : Parts) → line ≡ without_gap text → begins_with hash line ≡ false → parts_at line ≡ reads p []
    → influx_line text ≡ point_of_parts p
unfolding influx_line
point_is text line p same other parts = rw (← same, other, parts) refl
