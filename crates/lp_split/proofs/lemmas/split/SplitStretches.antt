-- A piece, one stretch at a time, by the results of searches and loads.
use Rattle.std.proofs.Common.{◌≡◌, ◌≢◌, ℕ, zero, suc, ◌+◌, ◌-◌, ◌/◌, ◌%◌, ◌^◌, ◌<◌, ◌≤◌, Bool, true, false, cond, not, ◌&&◌, List}
use Rattle.std.proofs.Common.{[], ◌∷◌, ◌++◌, length, take, drop, map, slice_index, Some, count_ones, sym, ap, ◌∙◌, subst, refl}
use Rattle.std.proofs.Common.{inl, inr, arith, length-append, ◌==◌, ◌||◌, w64, count_by, ne_eqb, get_or-drop, take-add}
use Rattle.std.proofs.{Common.add-zero, Math.Bool.and-true}
use Rattle.std.proofs.lemmas.{Bool.and_parts, Bool.and_right, Bool.cases_Bool, Bool.cases_lt, Bool.not-true}
use Rattle.std.proofs.lemmas.{Bool.Decides.nat_tests, List.take_more, List.take_rest, List.Elements.All-nil}
use Rattle.std.proofs.lemmas.{List.FromFn.length-map-range_with_len, List.FromFn.length-range_with_len}
use Rattle.std.proofs.lemmas.{List.Sums.count_by-le-length, List.Sums.sum_by-cons, Simd.mask_l-mod, Simd.ones-mask_l}
use Rattle.std.proofs.Math.Seq.{drop-append_seam, take-append-add, take-append_seam}
use Rattle.std.specs.{Int.trailing_zeros, List.range_with_len}
use Rattle.lp_format.specs.format.{backslash, comma, newline, quote, space, Crate, is_bare_at, is_escaped_after, IsBareAfter}
use Rattle.lp_format.specs.format.{IsHead, EndsQuoted, IsFirstCut, Bytes.equals}
use Rattle.lp_format.proofs.lemmas.split.SplitBare.{is_escaped-nil, is_escaped-append, is_escaped-push_other, flag_after}
use Rattle.lp_format.proofs.lemmas.split.SplitBare.{IsHead-bare, IsHead-escaped, EndsQuoted-bare, EndsQuoted-escaped}
use Rattle.lp_split.specs.{declared.split.Ahead.Ahead, code.IsAhead}
use Rattle.lp_split.proofs.lemmas.split.SplitWalk.{Head, IsIn, IsIn-escaped, Head-space, Plain, Plain-any, Plain-opens}
use Rattle.lp_split.proofs.lemmas.split.SplitWalk.{Plain-other, Quoted, Quoted-closes}
use Rattle.lp_scan.specs.code.{first_set, mask_at, IsBarePassed}
use Rattle.lp_scan.proofs.lemmas.scan.BareMasks.{at_most_one, lowest_passes, next_bare, none_before, one_escaped, ones_low}
use Rattle.lp_scan.proofs.lemmas.scan.MaskLemmas.{mask_after, mask_fits, tz_below}

-- whether a byte is a newline or a quote
abbrev pub ends_plain : ℕ → Bool
ends_plain b = b == newline || b == quote

-- a bare byte fails a test if it is no bare byte that passes
fails_bare : (t e : Bool) → (t && not e) ≡ false → e ≡ false → t ≡ false
fails_bare t e h k = grind arith

-- a text that ends at a bare place does not change what is escaped after it
pub bare_joined : (xs ys : List ℕ) → IsBareAfter xs → is_escaped_after (xs ++ ys) ≡ is_escaped_after ys
bare_joined xs ys h = is_escaped-append xs ys ∙ ap (λ (f : Bool). flag_after f ys) (h ∙ sym is_escaped-nil) ∙ sym (is_escaped-append [] ys)

-- the byte after a byte that is no backslash is not escaped
pub bare_past : (text : List ℕ) (at : ℕ) → at < length text → slice_index text at ≢ backslash → IsBareAfter (take (at + 1) text)
bare_past text at h other = rw (take_more text at 0 h) (is_escaped-push_other (take at text) (slice_index text at) other)

-- a byte of the rest after a bare place is bare and passes exactly if it does so in the text
bare_in_rest : (passes : ℕ → Bool) (text rest : List ℕ) (at k : ℕ) → rest ≡ drop at text → IsBareAfter (take at text)
    → is_bare_at passes text (at + k) ≡ is_bare_at passes rest k
bare_in_rest passes text rest at k same is_bare = grind (arith, get_or-drop, take-add, bare_joined)

-- a byte of a plain stretch is counted if it is a bare `=` or `,`
plain_byte : (piece : List ℕ) (b e c : ℕ) (escaped : Bool) → is_escaped_after piece ≡ escaped → (ends_plain b && not escaped) ≡ false
    → IsIn Plain e c piece → IsIn Plain (e + cond (b == equals && not escaped) 1 0) (c + cond (b == comma && not escaped) 1 0) (piece ++ b ∷ [])
plain_byte piece b e c true f none h =
    rw (and_right (b == equals) false refl, and_right (b == comma) false refl, add-zero e, add-zero c) (IsIn-escaped Plain e c piece b f h)
plain_byte piece b e c false f none h = rw (and-true (b == equals), and-true (b == comma)) (Plain-any e c piece b f (rw and-true at none) h)

module _ (text : List ℕ) where
  -- a property that each byte keeps, except a bare stop, is kept along several bytes without a bare stop
  along : (P : List ℕ → Type 0) (stop : ℕ → Bool)
      → ((piece : List ℕ) (b : ℕ) → is_escaped_after piece ≡ true → P piece → P (piece ++ b ∷ []))
      → ((piece : List ℕ) (b : ℕ) → IsBareAfter piece → stop b ≡ false → P piece → P (piece ++ b ∷ [])) → (n at end : ℕ) → at + n ≡ end
      → end ≤ length text → ((k : ℕ) → at ≤ k → k < end → is_bare_at stop text k ≡ false) → P (take at text) → P (take end text)
  along P stop if_escaped if_bare zero at end to room none h = grind arith
  along P stop if_escaped if_bare (suc n) at end to room none h =
      let piece = take (at + n) text in
      let b = slice_index text (at + n) in
      let place : at + n + 1 ≡ end = omega arith in
      let before : P piece = along P stop if_escaped if_bare n at (at + n) refl (omega arith) (λ k l m. none k l (omega arith)) h in
      let after : P (piece ++ b ∷ []) = elim (cases_Bool (is_escaped_after piece)) [
        | inl escaped ↦ if_escaped piece b escaped before
        | inr is_bare ↦ if_bare piece b is_bare (fails_bare _ _ (none (at + n) (omega arith) (omega arith)) is_bare) before
      ] in
      subst (λ (k : ℕ). P (take k text)) place (rw (take_more text (at + n) 0 (omega arith)) after)

  -- the bare `=` and `,` are counted along a plain stretch
  plain_on : (n at e c x y : ℕ) → at + n ≤ length text → ((k : ℕ) → at ≤ k → k < at + n → is_bare_at ends_plain text k ≡ false)
      → IsIn Plain e c (take at text) → x ≡ e + count_by (is_bare_at (λ b. b == equals) text) (range_with_len at n)
      → y ≡ c + count_by (is_bare_at (λ b. b == comma) text) (range_with_len at n) → IsIn Plain x y (take (at + n) text)
  plain_on zero at e c x y room none h to_x to_y = grind arith
  plain_on (suc n) at e c x y room none h to_x to_y =
      let place : at + 1 + n ≡ at + suc n = omega arith in
      let more : (p : ℕ → Bool) → count_by p (range_with_len at (suc n)) ≡ cond (p at) 1 0 + count_by p (range_with_len (at + 1) n) =
      λ p. sum_by-cons (λ k. cond (p k) 1 0) at (range_with_len (at + 1) n) in
      let one = rw (← take_more text at 0 (omega arith)) at
      (plain_byte (take at text) (slice_index text at) e c _ refl (none at (omega arith) (omega arith)) h) in
      subst (λ (k : ℕ). IsIn Plain x y (take k text)) place
      (plain_on n (at + 1) _ _ x y (omega arith) (λ k l m. none k (omega arith) (omega arith)) one
      (omega (arith, to_x, more (is_bare_at (λ b. b == equals) text))) (omega (arith, to_y, more (is_bare_at (λ b. b == comma) text))))

-- bytes, and a text that comes after them at a bare place
module _ (bytes text : List ℕ) (is_bare : IsBareAfter bytes) where
  -- a byte of the text is bare and passes in both together exactly if it does so in the text alone
  bare_in_both : (passes : ℕ → Bool) (k : ℕ) → is_bare_at passes (bytes ++ text) (length bytes + k) ≡ is_bare_at passes text k
  bare_in_both passes k = grind (arith, bare_in_rest, drop-append_seam, take-append_seam)

  -- a property that each byte keeps, except a bare stop, is kept along the text
  along_more : (P : List ℕ → Type 0) (stop : ℕ → Bool) (n : ℕ)
      → ((piece : List ℕ) (b : ℕ) → is_escaped_after piece ≡ true → P piece → P (piece ++ b ∷ []))
      → ((piece : List ℕ) (b : ℕ) → IsBareAfter piece → stop b ≡ false → P piece → P (piece ++ b ∷ []))
      → IsBarePassed stop text n → P bytes → P (bytes ++ take n text)
  along_more P stop n if_escaped if_bare p h =
      let all = bytes ++ text in
      let end = length bytes + n in
      let none : (k : ℕ) → length bytes ≤ k → k < end → is_bare_at stop all k ≡ false = λ k from to.
      let back : length bytes + (k - length bytes) ≡ k = omega arith in
      subst (λ (j : ℕ). is_bare_at stop all j ≡ false) back
      (bare_in_both stop (k - length bytes) ∙ p.none (k - length bytes) (omega arith)) in
      subst P (take-append-add bytes text n)
      (along all P stop if_escaped if_bare n (length bytes) end refl (omega (arith, length-append bytes text, p.within)) none
      (subst P (sym (take-append_seam bytes text)) h))

  -- the bytes of a head, up to a bare place, go on in the head
  pub head_bytes : (e c n : ℕ) → IsBarePassed (λ b. b == space || b == newline) text n → IsIn Head e c bytes
      → IsIn Head e c (bytes ++ take n text)
  head_bytes e c n p h = (
    along_more IsHead (λ b. b == space || b == newline) n (λ piece b f k. IsHead-escaped piece b k f)
        (λ piece b i f k. IsHead-bare piece b k i (grind (arith, nat_tests)) (grind (arith, nat_tests))) p h.0,
    h.1,
  )

  -- the bytes of a quoted stretch, up to a bare place, go on in the quoted stretch
  pub quoted_bytes : (e c n : ℕ) → IsBarePassed (λ b. b == quote || b == quote) text n → IsIn Quoted e c bytes
      → IsIn Quoted e c (bytes ++ take n text)
  quoted_bytes e c n p h = (
    h.0,
    along_more (λ piece. EndsQuoted piece h.0) (λ b. b == quote || b == quote) n (λ piece b f k. EndsQuoted-escaped b k f)
        (λ piece b i f k. EndsQuoted-bare b k i (grind (arith, nat_tests))) p h.1,
    h.2,
  )

  -- the bytes of the text pass the same tests in both together as in the text alone
  tests_in_both : (passes : ℕ → Bool) (n from to : ℕ) → length bytes + from ≡ to
      → map (is_bare_at passes (bytes ++ text)) (range_with_len to n) ≡ map (is_bare_at passes text) (range_with_len from n)
  tests_in_both passes zero from to place = refl
  tests_in_both passes (suc n) from to place =
      grind (arith, bare_in_both, (tests_in_both passes n (from + 1) (to + 1) (omega (arith, place))))

  -- a load shows of both together what it shows of the text alone
  pub shown_in_both : (a : Ahead) → IsAhead text 0 a → IsAhead (bytes ++ text) (length bytes)
      (record { stops = a.stops; equals = a.equals; commas = a.commas; end = length bytes + a.end })
  shown_in_both a are = grind (arith, take-append-add, take-append_seam, bare_joined, tests_in_both, length-append)

-- a head up to a bare place that can end it
module _ (text : List ℕ) (n : ℕ) (p : IsBarePassed (λ b. b == space || b == newline) text n) where
  -- the text up to this place is the head of a piece
  pub head_to : IsIn Head 0 0 (take n text)
  head_to = head_bytes [] text is_escaped-nil 0 0 n p (All-nil (λ b. (b ≢ space) × (b ≢ newline)), record { equals_is = refl; commas_is = refl })

  -- a newline at this place is the first cut
  pub head_cut : n < length text → slice_index text n ≡ newline → IsFirstCut Crate text (Some n)
  head_cut inside here = (inside, here, (inl head_to.0, p.is_bare))

  -- a space at this place begins a plain stretch
  pub head_space : n < length text → slice_index text n ≡ space → IsIn Plain 0 0 (take (n + 1) text)
  head_space inside here = rw (take_more text n 0 inside, here) (Head-space 0 0 (take n text) p.is_bare head_to)

-- the rest of a text after a bare place, in a quoted stretch up to another bare place
module _ (text rest : List ℕ) (at n : ℕ) (same : rest ≡ drop at text) (is_bare : IsBareAfter (take at text))
    (p : IsBarePassed (λ b. b == quote || b == quote) rest n) where
  -- the other place is bare in the text as well
  pub bare_on : IsBareAfter (take (at + n) text)
  bare_on = grind (arith, take-add, bare_joined)

  -- the text up to the other place is still in the quoted stretch
  pub quoted_on : (e c : ℕ) → IsIn Quoted e c (take at text) → IsIn Quoted e c (take (at + n) text)
  quoted_on e c h = rw (take-add at n text, ← same) (quoted_bytes (take at text) rest is_bare e c n p h)

-- a quote at a bare place of a quoted stretch closes it
pub quoted_closes : (text : List ℕ) (end e c : ℕ) → end < length text → IsBareAfter (take end text) → slice_index text end ≡ quote
    → IsIn Quoted e c (take end text) → IsIn Plain e c (take (end + 1) text)
quoted_closes text end e c inside is_bare here h = rw (take_more text end 0 inside, here) (Quoted-closes e c (take end text) is_bare h)

-- a load that showed nothing yet, from a bare place on
pub nothing_ahead : (text : List ℕ) (at : ℕ) → at ≤ length text → IsBareAfter (take at text)
    → IsAhead text at (record { stops = 0; equals = 0; commas = 0; end = at })
nothing_ahead text at within is_bare = grind arith

-- a load of 64 bytes shows the masks of its bare bytes
pub load_shows : (text : List ℕ) (at s e c last : ℕ) → at + 64 < length text → IsBareAfter (take at text)
    → s ≡ mask_at (is_bare_at ends_plain text) at 64 → e ≡ mask_at (is_bare_at (λ b. b == equals) text) at 64
    → c ≡ mask_at (is_bare_at (λ b. b == comma) text) at 64 → last ≡ cond (is_bare_at (λ b. b == backslash) text (at + 63)) 1 0
    → IsAhead text at (record { stops = s; equals = e; commas = c; end = at + 64 + last })
load_shows text at s e c last room is_bare s_is e_is c_is last_is =
    let one = at_most_one text at room last last_is in
    let place : at + (64 + last) ≡ at + 64 + last = omega arith in
    record {
      starts_bare = is_bare;
      count = 64;
      few = omega arith;
      within = omega arith;
      near = omega (arith, one);
      fits = omega (arith, one);
      is_bare = subst (λ (k : ℕ). IsBareAfter (take k text)) place (next_bare text at room last last_is);
      escaped = λ h. one_escaped text at room last last_is (omega arith);
      stops_are = s_is;
      equals_are = e_is;
      commas_are = c_is;
    }

-- a load of a text, by its masks
module _ {text : List ℕ} {at : ℕ} {a : Ahead} (are : IsAhead text at a) where
  -- whether a bare byte of the text passes a test
  abbrev bare_at : (ℕ → Bool) → ℕ → Bool
  bare_at p = is_bare_at p text

  -- no more bytes are counted than there are
  few_ones : (p : ℕ → Bool) (n r : ℕ) → n ≡ count_by (bare_at p) (range_with_len at r) → n ≤ r
  few_ones p n r is = omega (arith, is, count_by-le-length (bare_at p) (range_with_len at r), length-range_with_len at r)

  -- the bits of a mask count the bytes of the load that pass
  whole : (p : ℕ → Bool) (m : ℕ) → m ≡ mask_at (bare_at p) at are.count
      → count_ones (m % 2 ^ 64) ≡ count_by (bare_at p) (range_with_len at are.count)
  whole p m is =
      let places = range_with_len at are.count in
      ap (λ (k : ℕ). count_ones (k % 2 ^ 64)) is
      ∙ ap count_ones (mask_l-mod (map (bare_at p) places) 64 (omega (arith, length-map-range_with_len (bare_at p) at are.count, are.few)))
      ∙ ones-mask_l (bare_at p) places

  -- a load without an end: its bytes, and the byte that they escape, are of the plain stretch
  module _ {x y : ℕ} (x_is : x ≡ count_ones (a.equals % 2 ^ 64)) (y_is : y ≡ count_ones (a.commas % 2 ^ 64)) where
    -- no more bytes are counted than were seen
    pub few_past : (x ≤ a.end - at) × (y ≤ a.end - at)
    few_past =
        let within = are.within in (
          omega (arith, few_ones (λ b. b == equals) x are.count (x_is ∙ whole (λ b. b == equals) a.equals are.equals_are)),
          omega (arith, few_ones (λ b. b == comma) y are.count (y_is ∙ whole (λ b. b == comma) a.commas are.commas_are)),
        )

    -- the plain stretch goes on past the load, with its `=` and `,` counted
    pub plain_past : (e c : ℕ) → a.stops ≡ 0 → IsIn Plain e c (take at text) → IsIn Plain (e + x) (c + y) (take a.end text)
    plain_past e c clear h =
        let within = are.within in
        let none = none_before (bare_at ends_plain) at are.count are.count are.few
        (ap (λ (m : ℕ). first_set m are.count) (sym clear ∙ are.stops_are)) in
        let front = plain_on text are.count at e c (e + x) (c + y) (omega (arith, are.fits)) none h
        (ap (λ (k : ℕ). e + k) (x_is ∙ whole (λ b. b == equals) a.equals are.equals_are))
        (ap (λ (k : ℕ). c + k) (y_is ∙ whole (λ b. b == comma) a.commas are.commas_are)) in
        elim (cases_lt (at + are.count) a.end) [
          | inl more ↦
              let place : at + are.count + 1 ≡ a.end = omega (arith, are.near) in
              subst (λ (k : ℕ). IsIn Plain (e + x) (c + y) (take k text)) place
              (rw (take_more text (at + are.count) 0 (omega (arith, are.fits)))
              (IsIn-escaped Plain (e + x) (c + y) (take (at + are.count) text) _ (are.escaped more) front))
          | inr same ↦
              let place : at + are.count ≡ a.end = omega arith in
              subst (λ (k : ℕ). IsIn Plain (e + x) (c + y) (take k text)) place front
        ]

  -- a load with an end: the first end is at its lowest bit
  module _ {run : ℕ} (some : 0 < a.stops) (lowest : run ≡ trailing_zeros w64 a.stops) where
    -- the first end is the lowest bit of the mask
    found : run ≡ first_set (mask_at (bare_at ends_plain) at are.count) are.count
    found = grind (arith, ne_eqb)

    -- the first end is one of the bytes that were seen
    pub short : run < are.count
    short = tz_below a.stops are.count run (omega (arith, are.stops_are, mask_fits (bare_at ends_plain) at are.count)) are.few some lowest

    -- the first end is a byte of the text
    pub stop_within : at + run < length text
    stop_within = omega (arith, short, are.within, are.fits)

    -- the first end is a newline or a quote, and is bare
    pub at_end : (ends_plain (slice_index text (at + run)) ≡ true) × (not (is_escaped_after (take (at + run) text)) ≡ true)
    at_end = and_parts _ _ (lowest_passes (bare_at ends_plain) at are.count run are.few found short)

    -- the bytes before the first end do not escape it
    pub bare_to : IsBareAfter (take (at + run) text)
    bare_to = not-true _ at_end.1

    -- the bits below the first end count the bytes before it
    low : (p : ℕ → Bool) (m : ℕ) → m ≡ mask_at (bare_at p) at are.count
        → count_ones (m % 2 ^ run) ≡ count_by (bare_at p) (range_with_len at run)
    low p m is = ap (λ (k : ℕ). count_ones (k % 2 ^ run)) is ∙ ones_low (bare_at p) at are.count run (omega (arith, short))

    -- nothing is escaped after the first end
    pub bare_after : IsBareAfter (take (at + run + 1) text)
    bare_after = let ends = at_end.0 in bare_past text (at + run) stop_within (grind (arith, nat_tests))

    module _ {x y : ℕ} (x_is : x ≡ count_ones (a.equals % 2 ^ run)) (y_is : y ≡ count_ones (a.commas % 2 ^ run)) where
      -- no more bytes are counted than come before the first end
      pub few_to : (x ≤ run) × (y ≤ run)
      few_to = (
        few_ones (λ b. b == equals) x run (x_is ∙ low (λ b. b == equals) a.equals are.equals_are),
        few_ones (λ b. b == comma) y run (y_is ∙ low (λ b. b == comma) a.commas are.commas_are),
      )

      module _ (e c : ℕ) (h : IsIn Plain e c (take at text)) where
        -- the bytes before the first end are of the plain stretch
        plain_to : IsIn Plain (e + x) (c + y) (take (at + run) text)
        plain_to =
            plain_on text run at e c (e + x) (c + y) (omega (arith, stop_within))
            (none_before (bare_at ends_plain) at are.count run are.few found) h
            (ap (λ (k : ℕ). e + k) (x_is ∙ low (λ b. b == equals) a.equals are.equals_are))
            (ap (λ (k : ℕ). c + k) (y_is ∙ low (λ b. b == comma) a.commas are.commas_are))

        -- the first end is a quote if it is no newline
        a_quote : slice_index text (at + run) ≢ newline → take (at + run + 1) text ≡ take (at + run) text ++ quote ∷ []
        a_quote other = grind (arith, at_end, take_more, stop_within)

        -- a quote at the first end opens no string if there are no more `=` than `,`
        pub quote_stays : slice_index text (at + run) ≢ newline → e + x ≤ c + y → IsIn Plain (e + x) (c + y) (take (at + run + 1) text)
        quote_stays other few = rw (a_quote other) (Plain-other (e + x) (c + y) (take (at + run) text) quote (not-true _ at_end.1)
            (omega arith) (omega arith) (omega arith) (λ _. few) plain_to)

        -- a quote at the first end opens a quoted stretch if there are more `=` than `,`
        pub quote_opens : slice_index text (at + run) ≢ newline → c + y < e + x → IsIn Quoted (e + x) (c + y) (take (at + run + 1) text)
        quote_opens other more = rw (a_quote other) (Plain-opens (e + x) (c + y) (take (at + run) text) (not-true _ at_end.1) more plain_to)

    -- a newline at the first end is the first cut
    pub plain_cut : (e c : ℕ) → IsIn Plain e c (take at text) → slice_index text (at + run) ≡ newline
        → IsFirstCut Crate text (Some (at + run))
    plain_cut e c h here = let plain = plain_to refl refl e c h in (stop_within, here, (inr (plain.0, plain.1), not-true _ at_end.1))

    -- a quoted stretch goes on up to the first end
    pub quoted_past : (e c : ℕ) → IsIn Quoted e c (take at text) → IsIn Quoted e c (take (at + run) text)
    quoted_past e c h = (
      h.0,
      along text (λ piece. EndsQuoted piece h.0) ends_plain (λ piece b f k. EndsQuoted-escaped b k f)
          (λ piece b f g k. EndsQuoted-bare b k f (grind (arith, nat_tests))) run at (at + run) refl (omega (arith, stop_within))
          (none_before (bare_at ends_plain) at are.count run are.few found) h.1,
      h.2,
    )

    -- the shifted masks show the bytes after the first end
    pub seen_after : IsAhead text (at + run + 1)
        (record { stops = a.stops / 2 ^ run / 2; equals = a.equals / 2 ^ run / 2; commas = a.commas / 2 ^ run / 2; end = a.end })
    seen_after =
        let left = are.count - (run + 1) in
        let inside = short in
        let within = are.within in
        let near = are.near in
        let rest : (p : ℕ → Bool) (m : ℕ) → m ≡ mask_at (bare_at p) at are.count
        → m / 2 ^ run / 2 ≡ mask_at (bare_at p) (at + run + 1) left = λ p m is.
        ap (λ (k : ℕ). k / 2 ^ run / 2) is ∙ ap (λ (k : ℕ). k / 2) (mask_after (bare_at p) at are.count run (left + 1) (omega arith))
        ∙ mask_after (bare_at p) (at + run) (left + 1) 1 left (omega arith) in
        record {
          starts_bare = bare_after;
          count = left;
          few = omega (arith, are.few);
          within = omega arith;
          near = omega arith;
          fits = are.fits;
          is_bare = are.is_bare;
          escaped = grind arith;
          stops_are = rest ends_plain a.stops are.stops_are;
          equals_are = rest (λ b. b == equals) a.equals are.equals_are;
          commas_are = rest (λ b. b == comma) a.commas are.commas_are;
        }

-- bytes in a plain stretch, and a text after them, by a load of the text
module _ (bytes text : List ℕ) (is_bare : IsBareAfter bytes) (a : Ahead) (are : IsAhead text 0 a) (e c x y : ℕ)
    (h : IsIn Plain e c bytes) where
  -- the bytes are the front of both together
  front_of_both : IsIn Plain e c (take (length bytes) (bytes ++ text))
  front_of_both = subst (IsIn Plain e c) (sym (take-append_seam bytes text)) h

  -- the plain stretch goes on past the bytes of a load without an end
  pub plain_bytes_past : a.stops ≡ 0 → x ≡ count_ones (a.equals % 2 ^ 64) → y ≡ count_ones (a.commas % 2 ^ 64)
      → IsIn Plain (e + x) (c + y) (bytes ++ take a.end text)
  plain_bytes_past clear x_is y_is = subst (IsIn Plain (e + x) (c + y)) (take-append-add bytes text a.end)
      (plain_past (shown_in_both bytes text is_bare a are) x_is y_is e c clear front_of_both)

  -- the plain stretch goes on up to the first end of a load
  pub plain_bytes_to : (run : ℕ) → 0 < a.stops → run ≡ trailing_zeros w64 a.stops → x ≡ count_ones (a.equals % 2 ^ run)
      → y ≡ count_ones (a.commas % 2 ^ run) → IsIn Plain (e + x) (c + y) (bytes ++ take run text)
  plain_bytes_to run some lowest x_is y_is = subst (IsIn Plain (e + x) (c + y)) (take-append-add bytes text run)
      (plain_to (shown_in_both bytes text is_bare a are) some lowest x_is y_is e c front_of_both)

-- rules for the end of a head and for a load after a place
pub ruleset stretches = (head_to, head_cut, head_space, bare_past, nothing_ahead, seen_after)

-- rules for the end of a quoted stretch and for a load after it
pub ruleset quoted_ends = (seen_after, bare_on, nothing_ahead, bare_past, take_rest)
