-- Walks over a token, from escape to escape and by the masks of one load.
use Rattle.std.proofs.Common.{◌≡◌, ◌≢◌, ℕ, zero, suc, ◌+◌, ◌-◌, ◌<◌, ◌≤◌, Bool, List, [], ◌∷◌, ◌++◌, length, take, slice_index, true, false}
use Rattle.std.proofs.Common.{cond, eqb, ◌&&◌, refl, sym, ap, ap₂, ◌∙◌, subst, arith, inl, inr, add-zero, append_assoc, ◌%◌}
use Rattle.std.proofs.Common.{◌^◌, bit_and, count_ones, ◌==◌, eqb-true, length-append, length-take, get_or-take, count_by}
use Rattle.std.proofs.lemmas.Bool.{cases_Bool, or_parts, not-true, not-false, or_cases, eqb-false, cases_lt, cases_eq, and_right, and_parts}
use Rattle.std.proofs.lemmas.{List.take_more, List.Folds.list_any_none, List.Elements.All-from_get_or, List.Sums.sum_by-cons}
use Rattle.std.specs.List.{range_with_len}
use mir.Val.{bool_byte}
use Rattle.lp_format.specs.format.{backslash, is_one_of, is_escaped_after, is_bare_at, first_bare, without_escapes, EscapeScan}
use Rattle.lp_scan.specs.code.{is_plain, IsBarePassed, IsRunAt, first_set, mask_of, mask_at}
use Rattle.lp_format.proofs.lemmas.tokens.EscapeLemmas.{first_bare_is, is_escaped_more}
use Rattle.lp_format.proofs.lemmas.names.NameLemmas.{without_escapes_plain_byte}
use Rattle.lp_format.proofs.lemmas.split.SplitBare.{is_escaped-nil, is_escaped-append, is_escaped-after_other, flag_after}
use Rattle.lp_scan.proofs.lemmas.scan.BareMasks.{at_most_one, escaped_is_not_bare, lowest_within, mask_next, one_escaped}
use Rattle.lp_scan.proofs.lemmas.scan.BareMasks.{ones_low, to_next, to_stop}
use Rattle.lp_scan.proofs.lemmas.scan.{BareMasks.of_places, MaskLemmas.and_of_maps}

-- whether the byte after a text is escaped, by a walk from its first byte
escaped_is_flag : (text : List ℕ) → is_escaped_after text ≡ flag_after false text
escaped_is_flag text = is_escaped-append [] text ∙ ap (λ f. flag_after f text) is_escaped-nil

-- a backslash and another byte before a text do not change whether the byte after the text is escaped
escaped_after_pair : (c : ℕ) (rest : List ℕ) → is_escaped_after (backslash ∷ c ∷ rest) ≡ is_escaped_after rest
escaped_after_pair c rest = grind (arith, escaped_is_flag, flag_after, eqb)

-- the logical text of a text cut at a bare place is the logical texts of both parts, joined
pub without_escapes_append : (known front back : List ℕ) → is_escaped_after front ≡ false
    → without_escapes known (front ++ back) ≡ without_escapes known front ++ without_escapes known back
unfolding without_escapes
without_escapes_append known [] back bare = refl
without_escapes_append known (b ∷ []) back bare = grind (arith, cases_Bool, eqb-true, escaped_is_flag, without_escapes_plain_byte, eqb-false)
without_escapes_append known (b ∷ c ∷ rest) back bare =
    elim (cases_Bool (b == backslash)) [
      | inl e ↦
          let here : b ≡ backslash = eqb-true b backslash e in
          let inner : is_escaped_after rest ≡ false = sym (escaped_after_pair c rest) ∙ rw (← here) bare in
          let more = without_escapes_append known rest back inner in
          elim (cases_Bool (is_one_of known c)) [ inl k ↦ rw (e, k, more) refl | inr k ↦ rw (e, k, more) refl ]
      | inr e ↦
          let inner : is_escaped_after (c ∷ rest) ≡ false = sym (is_escaped-after_other [] (c ∷ rest) b e) ∙ bare in
          rw (e, without_escapes_append known (c ∷ rest) back inner) refl
    ]

-- whether a known escape begins at this place: a bare backslash before a byte that it may escape
abbrev is_escape_at : List ℕ → List ℕ → ℕ → Bool
is_escape_at known text k = is_bare_at (λ b. b == backslash) text k && is_one_of known (slice_index text (k + 1))

module _ (known text : List ℕ) where
  -- the number of known escapes that begin at the `n` places from `at` on
  abbrev pub escapes_from : ℕ → ℕ → ℕ
  escapes_from at n = count_by (is_escape_at known text) (range_with_len at n)

  -- the number of known escapes, by the first place and the places after it
  escapes_first : (at n : ℕ) → escapes_from at (suc n) ≡ cond (is_escape_at known text at) 1 0 + escapes_from (at + 1) n
  escapes_first at n = sum_by-cons (λ k. cond (is_escape_at known text k) 1 0) at (range_with_len (at + 1) n)

  -- the number of known escapes, with one more place at the end
  pub escapes_more : (n at j : ℕ) → at + n ≡ j → escapes_from at (suc n) ≡ escapes_from at n + cond (is_escape_at known text j) 1 0
  escapes_more zero at j e = let here : at ≡ j = omega arith in rw (← here) (grind (arith, escapes_first))
  escapes_more (suc n) at j e = omega (arith, escapes_first at (suc n), escapes_first at n, escapes_more n (at + 1) j (omega arith))

  -- no known escape begins where no backslash is
  none_escape : (n at : ℕ) → ((k : ℕ) → at ≤ k → k < at + n → (slice_index text k == backslash) ≡ false) → escapes_from at n ≡ 0
  none_escape zero at none = refl
  none_escape (suc n) at none = grind (arith, escapes_first, none_escape n (at + 1), none)

  -- the number of known escapes of two stretches is the number of the first and the number of the second
  joined : (n at : ℕ) → escapes_from 0 (at + n) ≡ escapes_from 0 at + escapes_from at n
  joined zero at = rw (add-zero at) (omega arith)
  joined (suc n) at =
      let place : suc (at + n) ≡ at + suc n = omega arith in
      rw (← place) (omega (arith, escapes_more (at + n) 0 (at + n) (omega arith), escapes_more n at (at + n) refl, joined n at))

  -- no known escape begins at an escaped byte after the others
  and_next : (at n last : ℕ) → last ≤ 1 → (0 < last → is_escaped_after (take (at + n) text) ≡ true)
      → escapes_from at (n + last) ≡ escapes_from at n
  and_next at n zero few next = rw (add-zero n) refl
  and_next at n (suc last) few next =
      let one : n + suc last ≡ suc n = omega arith in
      let flag = escaped_is_not_bare (λ b. b == backslash) text (at + n) (next (omega arith)) in
      rw one (omega (arith, rw flag at (escapes_more n at (at + n) refl)))

  -- the number of bytes that the first `k` bytes have without their escapes
  abbrev kept : ℕ → ℕ
  kept k = length (without_escapes known (take k text))

  -- a bare byte at the end is kept in the logical text
  kept_byte : (k : ℕ) → k < length text → is_escaped_after (take k text) ≡ false → kept (k + 1) ≡ kept k + 1
  unfolding without_escapes
  kept_byte k within bare =
      let parts = without_escapes_append known (take k text) (slice_index text k ∷ []) bare in
      rw (take_more text k 0 within, parts, length-append (without_escapes known (take k text)) (slice_index text k ∷ [])) refl

  -- a bare backslash and the byte after it are both kept, except that a known escape leaves out its backslash
  kept_pair : (k : ℕ) (t : Bool) → k + 1 < length text → is_escaped_after (take k text) ≡ false → slice_index text k ≡ backslash
      → is_one_of known (slice_index text (k + 1)) ≡ t → kept (k + 2) + cond t 1 0 ≡ kept k + 2
  unfolding without_escapes
  kept_pair k t within bare here is =
      let two : k + 1 + 1 ≡ k + 2 = omega arith in
      let front : take (k + 2) text ≡ take k text ++ (backslash ∷ slice_index text (k + 1) ∷ []) = rw (← two)
      (rw ((take_more text (k + 1) 0 within), (take_more text k 0 (omega arith)), here) (simp append_assoc)) in
      let parts = without_escapes_append known (take k text) (backslash ∷ slice_index text (k + 1) ∷ []) bare in
      grind (arith, cases_Bool, length-append)

  -- up to a bare place, each known escape leaves out one byte
  all_counted : (k : ℕ) → k ≤ length text → is_escaped_after (take k text) ≡ false → kept k + escapes_from 0 k ≡ k
  unfolding without_escapes
  all_counted zero within bare = refl
  all_counted (suc zero) within bare =
      let more = is_escaped_more text 0 (omega arith) in
      grind (arith, is_escaped-nil, kept_byte 0, escapes_more 0 0 0 refl)
  all_counted (suc (suc j)) within bare =
      let one : j + 1 ≡ suc j = omega arith in
      let two : j + 1 + 1 ≡ suc (suc j) = omega arith in
      elim (cases_Bool (is_escaped_after (take (j + 1) text))) [
        | inl escaped ↦
            let (unescaped, here) = and_parts _ _ (sym (is_escaped_more text j (omega arith)) ∙ escaped) in
            let slash : slice_index text j ≡ backslash = eqb-true (slice_index text j) backslash here in
            let pair_on : j + 2 ≡ suc (suc j) = omega arith in
            let pair = rw pair_on at (kept_pair j _ (omega arith) (not-true _ unescaped) slash refl) in
            let counted = all_counted j (omega arith) (not-true _ unescaped) in
            let inside = escaped_is_not_bare (λ b. b == backslash) text (j + 1) escaped in
            let begins = rw (here, not-true _ unescaped) at (escapes_more j 0 j (omega arith)) in
            omega (arith, rw inside at (escapes_more (suc j) 0 (j + 1) (omega arith)))
        | inr other ↦
            let last : (slice_index text (j + 1) == backslash) ≡ false = sym (rw (two, other) at (is_escaped_more text (j + 1) (omega arith))) ∙ bare in
            omega (
              arith,
              all_counted (suc j) (omega arith) (rw one at other),
              rw (two, one) at (kept_byte (j + 1) (omega arith) other),
              rw last at (escapes_more (suc j) 0 (j + 1) (omega arith)),
            )
      ]

module _ (known : List ℕ) (stops : ℕ → Bool) (text : List ℕ) where
  -- a walk starts at the start of a text with no known escapes
  pub walk_start : EscapeScan known stops text 0 0
  unfolding without_escapes
  walk_start = record { within = omega arith; bare = is_escaped-nil; passed = λ k h. absurd (omega arith); counted = refl }

  -- a plain byte is no stop and no backslash
  plain_parts : (b : ℕ) → is_plain stops b ≡ true → (stops b ≡ false) × ((b == backslash) ≡ false)
  plain_parts b h = or_parts (stops b) (b == backslash) (not-true _ h)

  -- a walk goes on to a bare place, if no bare stop is on the way
  pub walk_to : (n at found : ℕ) → EscapeScan known stops text at found → at + n ≤ length text
      → is_escaped_after (take (at + n) text) ≡ false
      → ((k : ℕ) → at ≤ k → k < at + n → is_bare_at stops text k ≡ false)
      → EscapeScan known stops text (at + n) (found + escapes_from known text at n)
  walk_to n at found w room bare none = record {
    within = room;
    bare = bare;
    passed = λ k to. elim (cases_lt k at) [ inl early ↦ w.passed k early | inr late ↦ none k late to ];
    counted = omega (arith, w.counted, all_counted known text at w.within w.bare, all_counted known text (at + n) room bare, joined known text n at);
  }

  -- a walk goes on to the end of a run of plain bytes
  pub walk_run : (at end found : ℕ) → EscapeScan known stops text at found → IsRunAt (is_plain stops) text at end
      → EscapeScan known stops text end found
  walk_run at end found w run =
      let place : at + (end - at) ≡ end = omega (arith, run.ordered) in
      let plain : (k : ℕ) → at ≤ k → k < end → (stops (slice_index text k) ≡ false) × ((slice_index text k == backslash) ≡ false) =
      λ k from to. plain_parts (slice_index text k) (run.passes k from to) in
      let none = none_escape known text (end - at) at (λ k from to. (plain k from (omega arith)).1) in
      let is_bare : is_escaped_after (take end text) ≡ false = elim (cases_eq end at) [
        | inl e ↦ rw e w.bare
        | inr more ↦
            let last : end - 1 + 1 ≡ end = omega (arith, run.ordered) in
            rw last at (is_escaped_more text (end - 1) (omega (arith, run.within, run.ordered)))
            ∙ grind (arith, (plain (end - 1) (omega (arith, run.ordered)) (omega (arith, run.ordered))).1)
      ] in
      rw (place, none, add-zero) at (walk_to (end - at) at found w (omega (arith, run.within)) (rw place is_bare)
      (λ k from to. grind (arith, (plain k from (omega arith)).0)))

  -- a walk goes on over a backslash and the byte that it escapes
  pub walk_escape : (at found n : ℕ) (t : Bool) → EscapeScan known stops text at found → at + 1 < length text
      → slice_index text at ≡ backslash → stops backslash ≡ false
      → is_one_of known (slice_index text (at + 1)) ≡ t → n ≡ bool_byte t → EscapeScan known stops text (at + 2) (found + n)
  unfolding without_escapes
  walk_escape at found n t w within here kept is counted =
      let two : at + 1 + 1 ≡ at + 2 = omega arith in
      let escaped : is_escaped_after (take (at + 1) text) ≡ true = rw (is_escaped_more text at (omega arith), w.bare, here) refl in
      record {
        within = omega arith;
        bare = rw (← two) (rw (is_escaped_more text (at + 1) within, escaped) refl);
        passed = grind (arith, cases_lt, cases_eq, and_right);
        counted = grind (arith, cases_Bool, kept_pair known text at t within w.bare here is, w.counted);
      }

  -- a token ends where a walk reaches a stop or the end of the text
  pub walk_ends : (end found : ℕ) → EscapeScan known stops text end found → (end < length text → stops (slice_index text end) ≡ true)
      → first_bare stops text ≡ end
  walk_ends end found w stop = first_bare_is stops text end w.within w.passed (λ h. rw (stop h, w.bare) refl)

  -- a token ends after a bare backslash that is the last byte of the text
  pub walk_ends_after : (at found : ℕ) → EscapeScan known stops text at found → at + 1 ≡ length text
      → slice_index text at ≡ backslash → stops backslash ≡ false
      → (first_bare stops text ≡ at + 1) × (length (without_escapes known (take (at + 1) text)) + found ≡ at + 1)
  walk_ends_after at found w last here kept = (
    first_bare_is stops text (at + 1) (omega arith)
        (λ k h. elim (cases_eq k at) [ inl e ↦ rw (e, here, kept) refl | inr other ↦ w.passed k (omega arith) ])
        (λ h. absurd (omega arith)),
    omega (arith, kept_byte known text at (omega arith) w.bare, w.counted),
  )

  -- a byte that is not plain and is no backslash is a stop
  pub is_stop_then : (b : ℕ) → is_plain stops b ≡ false → b ≢ backslash → stops b ≡ true
  is_stop_then b not_plain other = grind (arith, or_cases, not-false, eqb-true)

  -- a run of plain bytes holds no backslash
  pub run_is_plain : (end : ℕ) → IsRunAt (is_plain stops) text 0 end → is_one_of (take end text) backslash ≡ false
  run_is_plain end run = list_any_none (λ b. b == backslash) (take end text)
      (All-from_get_or (λ b. (b == backslash) ≡ false) (take end text) 0 (λ k l.
      let inside : k < end = omega (arith, l, length-take end text) in
      rw (get_or-take end text k 0 inside) (plain_parts (slice_index text k) (run.passes k (omega arith) inside)).1))

  -- a token without a backslash ends where its run of plain bytes ends
  pub run_ends : (end : ℕ) → IsRunAt (is_plain stops) text 0 end → (end < length text → slice_index text end ≢ backslash)
      → (first_bare stops text ≡ end) × (length (without_escapes known (take end text)) ≡ end)
  run_ends end run other =
      let walked = walk_run 0 end 0 walk_start run in
      (walk_ends end 0 walked (λ h. is_stop_then (slice_index text end) (run.stops h) (other h)), omega (arith, walked.counted))

-- the bits of both masks are the mask of the known escapes
pub escapes_mask : (known text : List ℕ) (at m k : ℕ) → at + 64 < length text → m ≡ mask_at (is_bare_at (λ b. b == backslash) text) at 64
    → k ≡ mask_of (is_one_of known) text (at + 1) 64 → bit_and m k ≡ mask_at (is_escape_at known text) at 64
escapes_mask known text at m k room m_is k_is =
    let next : ℕ → Bool = λ j. is_one_of known (slice_index text j) in
    ap₂ bit_and m_is (k_is ∙ of_places text (is_one_of known) (at + 1) 64 (omega arith) ∙ mask_next next at 64)
    ∙ and_of_maps (is_bare_at (λ b. b == backslash) text) (λ j. next (j + 1)) (range_with_len at 64)

module _ (known : List ℕ) (stops : ℕ → Bool) (text : List ℕ) (at found : ℕ) (room : at + 64 < length text)
    (w : EscapeScan known stops text at found) (run : ℕ) (run_is : run ≡ first_set (mask_at (is_bare_at stops text) at 64) 64)
    (n : ℕ) (n_is : n ≡ count_ones (mask_at (is_escape_at known text) at 64 % 2 ^ run)) where
  -- no bare stop is before the load
  passed : IsBarePassed stops text at
  passed = record { within = w.within; is_bare = w.bare; none = w.passed }

  -- the bits of the mask count the known escapes
  counted : n ≡ escapes_from known text at run
  counted = n_is ∙ ones_low (is_escape_at known text) at 64 run (lowest_within (is_bare_at stops text) at 64 run (omega arith) run_is)

  -- the walk goes on to a bare stop in the load
  pub load_stops : run < 64 → EscapeScan known stops text (at + run) (found + n) × (stops (slice_index text (at + run)) ≡ true)
  load_stops short =
      let stop = to_stop stops text at room passed run run_is short in (
        rw counted (walk_to known stops text run at found w stop.0.within stop.0.is_bare (λ k from to. stop.0.none k to)),
        stop.1,
      )

  -- the walk goes on over a load without a bare stop, and over the byte that its last byte escapes
  pub load_goes_on : (last : ℕ) → 64 ≤ run → last ≡ cond (is_bare_at (λ b. b == backslash) text (at + 63)) 1 0
      → EscapeScan known stops text (at + (64 + last)) (found + n)
  load_goes_on last far is =
      let one = at_most_one text at room last is in
      let whole : run ≡ 64 = omega (arith, lowest_within (is_bare_at stops text) at 64 run (omega arith) run_is) in
      let next = to_next stops text at room passed run run_is last far is in
      let walked = walk_to known stops text (64 + last) at found w next.within next.is_bare (λ k from to. next.none k to) in
      let same : escapes_from known text at (64 + last) ≡ n = and_next known text at 64 last one (one_escaped text at room last is)
      ∙ ap (escapes_from known text at) (sym whole) ∙ sym counted in
      subst (λ (k : ℕ). EscapeScan known stops text (at + (64 + last)) (found + k)) same walked
