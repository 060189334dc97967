-- The first newline, quote or backslash of a text, as loads and searches find it, and the cut that it shows.
use Rattle.std.proofs.Common.{◌≡◌, ℕ, ◌+◌, ◌-◌, ◌/◌, ◌^◌, ◌<◌, ◌≤◌, Bool, true, cond, not, List, length, drop, slice_index, Some, sym, ap}
use Rattle.std.proofs.Common.{subst, ◌∙◌, inl, inr, refl, length-drop, arith, None, ◌≢◌, zero, suc, take, w64, ne_eqb, get_or-drop}
use Rattle.std.proofs.Common.{take_all, All, length-append, length-take, get_or-take, [], ◌∷◌, ◌++◌}
use Rattle.std.specs.Int.{trailing_zeros}
use Rattle.std.proofs.lemmas.{Bool.cases_lt, Bool.not-true, Bool.not-false, Bool.false≢true, List.length-map, Simd.length-chunk}
use Rattle.std.proofs.lemmas.{Simd.mask_l-lt, List.Elements.All-from_get_or, List.Elements.All-get_or, List.Elements.All-weaker}
use Rattle.memchr.specs.Find.{IsFirstByte, is_byte, is_byte3, Nowhere, Passes}
use Rattle.lp_scan.specs.code.{AllPassBetween, IsRunIn, first_set, mask_of}
use Rattle.lp_split.specs.code.{AreSeen, is_mark}
use Rattle.lp_scan.proofs.lemmas.scan.MaskLemmas.{run_is, shifted, tz_below}
use Rattle.lp_format.specs.format.{backslash, quote, Dialect, Crate, Strict, NewlineDelimited, HasNoNewline, IsFirstCut, IsLastPiece, IsBareAfter, EndsQuoted}
use Rattle.lp_format.specs.format.{Piece.EndsQuoted.opened, Bytes.newline, Bytes.newlines_in}
use Rattle.std.proofs.lemmas.List.Sums.{count_by_more_no}
use Rattle.std.proofs.Common.{◌==◌}
use Rattle.lp_format.proofs.lemmas.{split.SplitBare.is_escaped-nil, split.SplitPieces.IsLastPiece-extend, split.SplitPieces.IsLastPiece-nil}
use Rattle.lp_split.proofs.lemmas.split.SplitStretches.{bare_past}
use Rattle.std.proofs.Math.Seq.{get_or-append_seam}

module _ (test : ℕ → Bool) (text : List ℕ) (at n m r : ℕ) (room : at + n ≤ length text) (few : n ≤ 64)
    (is : m ≡ mask_of test text at n) (some : 0 < m) (lowest : r ≡ trailing_zeros w64 m) where
  -- the mask of `n` bytes is below 2 to the power of `n`
  below : m < 2 ^ n
  below = grind (arith, length-map, length-chunk, mask_l-lt)

  -- the lowest bit is one of the `n` bytes
  pub one_of : r < n
  one_of = tz_below m n r below few some lowest

  -- the bytes before the lowest bit fail the test
  run : IsRunIn (λ b. not (test b)) text at n r
  run =
      let set : r ≡ first_set m n = lowest ∙ ap (λ (t : Bool). cond t n (trailing_zeros w64 m)) (sym (ne_eqb m 0 (omega (arith, some)))) in
      run_is test text at n room few r (set ∙ ap (λ (k : ℕ). first_set k n) is)

  -- the byte at the lowest bit passes the test
  pub passes_there : test (slice_index text (at + r)) ≡ true
  passes_there = not-false _ (run.2 one_of)

  -- the byte at the lowest bit is the first that passes, if no byte before the load passes
  pub first_is : (place : ℕ) → at + r ≡ place → AllPassBetween (λ b. not (test b)) text 0 at → IsFirstByte test text (Some place)
  first_is place to_place before = grind (arith, one_of, cases_lt, false≢true, not-true, run, passes_there)

  -- the bits above the lowest bit are the mask of the bytes after it
  pub later_are : m / 2 ^ r / 2 ≡ mask_of test (drop (at + r + 1) text) 0 (n - (r + 1))
  later_are =
      let inside = one_of in
      let count : n - r - 1 ≡ n - (r + 1) = omega arith in
      ap (λ (k : ℕ). k / 2 ^ r / 2) is ∙ ap (λ (k : ℕ). k / 2) (shifted test text at n r (omega (arith, inside)))
      ∙ shifted test text (at + r) (n - r) 1 (omega (arith, inside)) ∙ ap (mask_of test text (at + r + 1)) count

-- the bits above the lowest bit are the mask of the marks that were seen after it
pub seen_later : (dialect : Dialect) (text : List ℕ) (at n m r place : ℕ) → at + n ≤ length text → n ≤ 64 → m ≡ mask_of (is_mark dialect) text at n
    → 0 < m → r ≡ trailing_zeros w64 m → at + r ≡ place → AreSeen dialect (drop (place + 1) text) (m / 2 ^ r / 2)
seen_later dialect text at n m r place room few is some lowest to_place = grind (arith, length-drop, later_are)

-- the mask 0 is the mask of the marks among the first 0 bytes of a text
pub none_are_seen : (dialect : Dialect) (text : List ℕ) → AreSeen dialect text 0
none_are_seen dialect text = record { count = 0; within = omega arith; few = omega arith; are = refl }

-- if the mask of a load is 0 and no byte before the load passes, no byte up to the end of the load passes
pub none_seen : (test : ℕ → Bool) (text : List ℕ) (at n m : ℕ) → at + n ≤ length text → n ≤ 64 → m ≡ mask_of test text at n → m ≡ 0
    → AllPassBetween (λ b. not (test b)) text 0 at → AllPassBetween (λ b. not (test b)) text 0 (at + n)
none_seen test text at n m room few is empty before k from to =
    grind (arith, cases_lt, run_is test text at n room few n (ap (λ (k : ℕ). first_set k n) (sym empty ∙ is)))

module _ (test : ℕ → Bool) (text rest : List ℕ) (at : ℕ) (within : at ≤ length text) (same : rest ≡ drop at text)
    (quiet : AllPassBetween (λ b. not (test b)) text 0 at) where
  -- a byte of the rest is the byte of the text at a place after the loads
  here : (k : ℕ) → slice_index rest k ≡ slice_index text (at + k)
  here k = ap (λ (t : List ℕ). slice_index t k) same ∙ get_or-drop at text k 0

  -- the rest is as long as the text after the loads
  left : length rest ≡ length text - at
  left = ap length same ∙ length-drop at text

  -- nothing is found before a place of the text after the loads, if nothing is found before it in the rest
  none_before : (n : ℕ) → Nowhere (Passes test rest) 0 n → Nowhere (Passes test text) 0 (at + n)
  none_before n none k from to found =
      elim (cases_lt k at) [
        | inl early ↦ false≢true (sym (not-true (test (slice_index text k)) (quiet k (omega arith) early)) ∙ found)
        | inr late ↦
            let back : at + (k - at) ≡ k = omega arith in
            none (k - at) (omega arith) (omega arith) (ap test (here (k - at) ∙ ap (λ (j : ℕ). slice_index text j) back) ∙ found)
      ]

  -- the first byte that is found in the rest is the first byte that is found in the text
  pub found_after : (n : ℕ) → IsFirstByte test rest (Some n) → IsFirstByte test text (Some (at + n))
  found_after n found = (
    record { low = omega arith; high = omega (arith, found.0.high, left); before = none_before n found.0.before },
    ap test (sym (here n)) ∙ found.1,
  )

  -- nothing is found in the text if nothing is found in the rest
  pub none_after : IsFirstByte test rest None → IsFirstByte test text None
  none_after none k from to found = none_before (length rest) none k from (omega (arith, left)) found

-- a byte that is no newline, no quote and no backslash
abbrev IsOther : ℕ → Type 0
IsOther b = (b ≢ newline) × (b ≢ quote) × (b ≢ backslash)

-- the front of a text before its first newline, quote or backslash has only other bytes
others_before : (text : List ℕ) (n : ℕ) → n ≤ length text → Nowhere (Passes (is_byte3 backslash 10 quote) text) 0 n → All IsOther (take n text)
others_before text n h none = All-from_get_or IsOther (take n text) 0 (λ i l.
    let inside : i < n = omega (arith, l, length-take n text) in
    subst IsOther (sym (get_or-take n text i 0 inside))
    ((λ e. none i (omega arith) inside (rw e refl)), (λ e. none i (omega arith) inside (rw e refl)), (λ e. none i (omega arith) inside (rw e refl))))

-- a text of other bytes than newlines, quotes and backslashes is one piece
others_last : (dialect : Dialect) (front : List ℕ) → All IsOther front → IsLastPiece dialect front
others_last dialect front h =
    IsLastPiece-extend dialect [] front (IsLastPiece-nil dialect) (All-weaker IsOther (λ b. b ≢ newline) (λ b o. o.0) front h)

-- a text of other bytes than newlines, quotes and backslashes does not end in a quoted stretch
others_closed : {front counted : List ℕ} → EndsQuoted front counted → All IsOther front → ⊥
others_closed (opened piece counted quoted e o q) h =
    let front = piece ++ quote ∷ quoted in
    let at = All-get_or IsOther front (length piece) 0 (omega (arith, length-append piece (quote ∷ quoted))) h in
    at.1 (get_or-append_seam piece quote quoted 0)

-- nothing is escaped after a front of other bytes than newlines, quotes and backslashes
others_bare : (text : List ℕ) (n : ℕ) → n ≤ length text → All IsOther (take n text) → IsBareAfter (take n text)
others_bare text zero h others = is_escaped-nil
others_bare text (suc n) h others =
    let last = All-get_or IsOther (take (suc n) text) n 0 (omega (arith, length-take (suc n) text)) others in
    let next : n + 1 ≡ suc n = omega arith in
    subst (λ (k : ℕ). IsBareAfter (take k text)) next
    (bare_past text n (omega arith) (λ e. last.2 (get_or-take (suc n) text n 0 (omega arith) ∙ e)))

-- the front of a text before its first newline has no newline
none_before_newline : (text : List ℕ) (n : ℕ) → n ≤ length text → Nowhere (Passes (is_byte newline) text) 0 n → HasNoNewline (take n text)
none_before_newline text n h none = All-from_get_or (λ b. b ≢ newline) (take n text) 0 (λ i l e.
    let inside : i < n = omega (arith, l, length-take n text) in
    none i (omega arith) inside (rw (sym (get_or-take n text i 0 inside) ∙ e) refl))

-- a newline before all quotes and backslashes is the first cut, in each dialect
cut_of_others : (dialect : Dialect) (text : List ℕ) (n : ℕ) → IsFirstByte (is_byte3 backslash newline quote) text (Some n)
    → slice_index text n ≡ newline → IsFirstCut dialect text (Some n)
cut_of_others dialect text n found sign =
    let others = others_before text n (omega (arith, found.0.high)) found.0.before in
    let last = others_last dialect (take n text) others in
    let is_bare = others_bare text n (omega (arith, found.0.high)) others in
    let closed : (counted : List ℕ) → EndsQuoted (take n text) counted → ⊥ = λ counted e. others_closed e others in
    let no_newline : HasNoNewline (take n text) = All-weaker IsOther (λ b. b ≢ 10) (λ b o. o.0) (take n text) others in
    (found.0.high, sign, grind arith)

-- a newline that is the first mark of a text is its first cut
pub cut_at_newline : (dialect : Dialect) (text : List ℕ) (n : ℕ) → IsFirstByte (is_mark dialect) text (Some n)
    → slice_index text n ≡ newline → IsFirstCut dialect text (Some n)
cut_at_newline Crate text n found sign = cut_of_others Crate text n found sign
cut_at_newline Strict text n found sign = cut_of_others Strict text n found sign
cut_at_newline NewlineDelimited text n found sign =
    (found.0.high, sign, none_before_newline text n (omega (arith, found.0.high)) found.0.before)

-- a text without newlines, quotes and backslashes is one piece
none_of_others : (dialect : Dialect) (text : List ℕ) → IsFirstByte (is_byte3 backslash newline quote) text None → IsFirstCut dialect text None
none_of_others dialect text none =
    let others = others_before text (length text) (omega arith) none in
    others_last dialect text (subst (All IsOther) (take_all (length text) text (omega arith)) others)

-- a text without a mark is one piece
pub no_cut : (dialect : Dialect) (text : List ℕ) → IsFirstByte (is_mark dialect) text None → IsFirstCut dialect text None
no_cut Crate text none = none_of_others Crate text none
no_cut Strict text none = none_of_others Strict text none
no_cut NewlineDelimited text none =
    subst HasNoNewline (take_all (length text) text (omega arith)) (none_before_newline text (length text) (omega arith) none)

module _ (test : ℕ → Bool) (newline_passes : test newline ≡ true) (text : List ℕ) where
  -- a front of bytes that fail a test has no newline, if a newline passes the test
  counts_none : (n : ℕ) → n ≤ length text → Nowhere (Passes test text) 0 n → newlines_in (take n text) ≡ 0
  counts_none zero h none = refl
  counts_none (suc n) h none =
      let other : slice_index text n ≢ newline = λ e. none n (omega arith) (omega arith) (rw e newline_passes) in
      let next : n + 1 ≡ suc n = omega arith in
      subst (λ (k : ℕ). newlines_in (take k text) ≡ 0) next
      (count_by_more_no (λ b. b == newline) text n 0 (omega arith) (ne_eqb _ _ other)
      ∙ counts_none n (omega arith) (λ k from to. none k from (omega (arith, to))))

-- no newline comes before the first mark
pub no_newlines : (dialect : Dialect) (text : List ℕ) (n : ℕ) → IsFirstByte (is_mark dialect) text (Some n) → newlines_in (take n text) ≡ 0
no_newlines Crate text n found = counts_none (is_mark Crate) refl text n (omega (arith, found.0.high)) found.0.before
no_newlines Strict text n found = counts_none (is_mark Strict) refl text n (omega (arith, found.0.high)) found.0.before
no_newlines NewlineDelimited text n found = counts_none (is_mark NewlineDelimited) refl text n (omega (arith, found.0.high)) found.0.before
