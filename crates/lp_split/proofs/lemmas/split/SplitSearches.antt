-- Results of loads and searches: the first bare byte that passes a test, the number of bytes that pass it, and the bytes that end a stretch.
use Rattle.std.proofs.Common.{◌≡◌, ◌≢◌, ℕ, zero, suc, ◌+◌, ◌<◌, ◌≤◌, List, length, take, drop, slice_index, Bool, true, false}
use Rattle.std.proofs.Common.{◌||◌, Some, None, length-drop, refl, ap, ◌∙◌, subst, inl, inr, arith}
use Rattle.std.proofs.Common.{◌==◌, eqb-true, get_or-drop}
use Rattle.std.proofs.lemmas.{Bool.and_right, Bool.cases_Bool, Bool.eqb-false}
use Rattle.memchr.specs.Find.{Nowhere, Passes, IsFirstByte, is_byte3}
use Rattle.lp_format.specs.format.{backslash, is_escaped_after, is_bare_at}
use Rattle.lp_format.proofs.lemmas.{tokens.EscapeLemmas.is_escaped_more, split.SplitBare.is_escaped-nil}
use Rattle.lp_split.{specs.declared.split.Stops.Stops, specs.code.is_stop, proofs.lemmas.split.SplitStretches.bare_past}
use Rattle.lp_scan.specs.code.{IsBarePassed}

module _ (passes : ℕ → Bool) (text : List ℕ) where
  -- no bare byte before the start of a text passes
  pub passed_start : IsBarePassed passes text 0
  passed_start = record { within = omega arith; is_bare = is_escaped-nil; none = λ k h. absurd (omega arith) }

  -- no bare byte before the next place passes, if none before this place and none at this place passes
  passed_more : (at : ℕ) → ((k : ℕ) → k < at → is_bare_at passes text k ≡ false) → is_bare_at passes text at ≡ false
      → (k : ℕ) → k < at + 1 → is_bare_at passes text k ≡ false
  passed_more at before here k h = grind (arith, cases_Bool, eqb-true, eqb-false)

  -- several bytes that are no backslashes and fail the test are passed over
  passed_bytes : (at n : ℕ) → at + n ≤ length text
      → ((k : ℕ) → k < n → (slice_index text (at + k) ≢ backslash) × (passes (slice_index text (at + k)) ≡ false))
      → IsBarePassed passes text at → IsBarePassed passes text (at + n)
  passed_bytes at zero h none p = subst (IsBarePassed passes text) (omega arith) p
  passed_bytes at (suc n) h none p =
      let before = passed_bytes at n (omega arith) (λ k l. none k (omega arith)) p in
      let next : at + n + 1 ≡ at + suc n = omega arith in
      grind (arith, bare_past, passed_more)

  -- a backslash and the byte after it are passed over
  passed_escape : (at : ℕ) → at + 1 < length text → slice_index text at ≡ backslash → passes backslash ≡ false
      → IsBarePassed passes text at → IsBarePassed passes text (at + 2)
  passed_escape at h here fails p =
      let flag : is_escaped_after (take (at + 1) text) ≡ true = rw (is_escaped_more text at (omega arith), p.is_bare, here) refl in
      let escaped : is_bare_at passes text (at + 1) ≡ false = rw flag (and_right (passes (slice_index text (at + 1))) false refl) in
      let next : (at + 1) + 1 ≡ at + 2 = omega arith in
      grind (arith, is_escaped_more, passed_more)

-- a byte that a search for the backslash and two more bytes does not find is none of the three
not_found : (c d b : ℕ) → (b == backslash || b == c || b == d) ≡ false → (b ≢ backslash) × ((b == c || b == d) ≡ false)
not_found c d b h = grind arith

-- a search after a place for the backslash and the two bytes that end a stretch
module _ (stops : Stops) (fails : is_stop stops backslash ≡ false) {text rest : List ℕ} {at : ℕ} (same : rest ≡ drop at text)
    (p : IsBarePassed (is_stop stops) text at) where
  -- the bytes before the first byte that the search finds are passed over
  searched : (n : ℕ) → at + n ≤ length text → Nowhere (Passes (is_byte3 backslash stops.0 stops.1) rest) 0 n
      → IsBarePassed (is_stop stops) text (at + n)
  searched n h none =
      let there : (k : ℕ) → slice_index rest k ≡ slice_index text (at + k) = λ k.
      ap (λ (t : List ℕ). slice_index t k) same ∙ get_or-drop at text k 0 in
      passed_bytes (is_stop stops) text at n h
      (λ k l. elim (cases_Bool (is_byte3 backslash stops.0 stops.1 (slice_index rest k))) [
        | inl found ↦ absurd (none k (omega arith) l found)
        | inr other ↦ not_found stops.0 stops.1 _ (rw there at other)
      ])
      p

  -- the bytes before the byte that the search finds are passed over, and this byte is in the text
  pub found_after : (n : ℕ) → IsFirstByte (is_byte3 backslash stops.0 stops.1) rest (Some n)
      → IsBarePassed (is_stop stops) text (at + n) × (at + n < length text)
  found_after n found =
      let fits : at + n < length text = omega (arith, found.0.high, ap length same, length-drop at text, p.within) in
      (searched n (omega arith) found.0.before, fits)

  -- if the search finds a backslash, the bytes up to the byte after it are passed over
  pub search_goes_on : (n : ℕ) → IsFirstByte (is_byte3 backslash stops.0 stops.1) rest (Some n) → slice_index text (at + n) ≡ backslash
      → at + n + 1 < length text → IsBarePassed (is_stop stops) text (at + n + 2)
  search_goes_on n found here h = passed_escape (is_stop stops) text (at + n) h here fails (found_after n found).0

  -- if the search finds nothing, all bytes of the text are passed over
  pub search_ends : IsFirstByte (is_byte3 backslash stops.0 stops.1) rest None → IsBarePassed (is_stop stops) text (length text)
  search_ends none =
      let to : at + length rest ≡ length text = omega (arith, ap length same, length-drop at text, p.within) in
      subst (IsBarePassed (is_stop stops) text) to (searched (length rest) (omega arith) none)
