-- Cuts of a text in which each newline ends a line.
use Rattle.std.proofs.Common.{◌≡◌, ℕ, zero, suc, ◌+◌, ◌-◌, ◌<◌, ◌≤◌, List, [], ◌∷◌, ◌++◌, ◌⊎◌, inl, inr, length, take, slice_range, slice_index}
use Rattle.std.proofs.Common.{Some, None, refl, sym, ap, subst, ◌∙◌, append_assoc, length-append, arith}
use Rattle.std.proofs.lemmas.List.{length-take-le, get_or-take, get_or-drop}
use Rattle.influxdb_line_protocol.specs.format.Dialects.{Dialect, NewlineDelimited}
use Rattle.influxdb_line_protocol.specs.format.Pieces.{Pieces, Pieces.cut, Pieces.last}
use Rattle.influxdb_line_protocol.specs.format.Bytes.{newline}
use Rattle.influxdb_line_protocol.specs.laws.Laws.{PiecesExist, LinesJoin}
use Rattle.std.proofs.lemmas.Bool.{eqb-true, eq-eqb}
use Rattle.std.proofs.Math.Seq.{get_or-append_seam}
use Rattle.memchr.specs.Find.{IsFirstByte, Nowhere, is_byte}
use Rattle.lp_cuts.specs.Cuts.{IsCutAt}
use Rattle.lp_cuts.specs.declared.cuts.Walk.{Walk}
use Rattle.lp_cuts.specs.CutSteps.{IsWalkOf, PassesNone}
use Rattle.lp_cuts.proofs.CutLemmas.{nothing_is_piece}
use Rattle.lp_cuts.proofs.WalkLemmas.{walk_begins}

-- what is not below is above, or the same
not_below : (a b : ℕ) → (a < b → ⊥) → b ≤ a
not_below a b h = omega arith

-- a number is below another or not
below_or_not : (a b : ℕ) → (a < b) ⊎ (b ≤ a)
below_or_not a b = grind arith

-- a text up to a byte of it
take_to : (xs : List ℕ) (k b : ℕ) → k < length xs → slice_index xs k ≡ b → take k xs ++ b ∷ [] ≡ take (k + 1) xs
take_to [] k b h e = absurd (omega (arith, h))
take_to (x ∷ xs) zero b h e = grind arith
take_to (x ∷ xs) (suc k) b h e = grind (arith, take_to xs k b)

-- the place after a newline is a cut
pub cut_after_newline : PiecesExist → LinesJoin → (text : List ℕ) (k new : ℕ) → k < length text → slice_index text k ≡ newline → new ≡ k + 1
    → IsCutAt NewlineDelimited text new
cut_after_newline exist join text k new within is at =
    let p = exist NewlineDelimited (take k text) in
    record {
      within = omega (arith, within, at);
      pieces = p.0;
      are = subst (λ (l : List ℕ). Pieces NewlineDelimited l (p.0 ++ [] ∷ [])) (take_to text k newline within is ∙ ap (λ (n : ℕ). take n text) (sym at))
          (join (take k text) [] p.0 ([] ∷ []) p.1 (nothing_is_piece exist NewlineDelimited));
    }

-- a text has a piece
no_pieces : (dialect : Dialect) (text : List ℕ) (all : List (List ℕ)) → all ≡ [] → Pieces dialect text all → ⊥
no_pieces dialect text all e (last piece h) = absurd (cc)
no_pieces dialect text all e (cut piece rest pieces c h) = absurd (cc)

-- bytes whose last piece is empty are none, or end with a newline
ends_with_newline : (dialect : Dialect) (u : List ℕ) (all us : List (List ℕ)) → all ≡ us ++ [] ∷ [] → Pieces dialect u all
    → (u ≡ []) ⊎ ((v : List ℕ) × (u ≡ v ++ newline ∷ []))
ends_with_newline dialect u all [] e (last piece h) = inl (cc)
ends_with_newline dialect u all (x ∷ []) e (last piece h) = absurd (cc)
ends_with_newline dialect u all (x ∷ (y ∷ us)) e (last piece h) = absurd (cc)
ends_with_newline dialect u all [] e (cut piece text pieces c h) = absurd (no_pieces dialect text pieces (cc) h)
ends_with_newline dialect u all (x ∷ us) e (cut piece text pieces c h) =
    elim (ends_with_newline dialect text pieces us (cc) h) [
      | inl none ↦ inr (piece, ap (λ (l : List ℕ). piece ++ newline ∷ l) none)
      | inr some ↦ inr (
        piece ++ newline ∷ some.0,
        ap (λ (l : List ℕ). piece ++ newline ∷ l) some.1 ∙ sym (append_assoc piece (newline ∷ some.0) (newline ∷ [])),
      )
    ]

-- the last byte of a front that ends with a newline
last_of_front : (text v : List ℕ) (other : ℕ) → take other text ≡ v ++ newline ∷ [] → length (take other text) ≡ other → 0 < other
    → slice_index text (other - 1) ≡ newline
last_of_front text v other ends len some =
    let v_len : length v ≡ other - 1 = omega (arith, ap (λ (l : List ℕ). length l) ends, length-append v (newline ∷ []), len) in
    sym (get_or-take other text (other - 1) 0 (omega (arith, some)))
    ∙ ap (λ (l : List ℕ). slice_index l (other - 1)) ends
    ∙ ap (λ (n : ℕ). slice_index (v ++ newline ∷ []) n) (sym v_len)
    ∙ get_or-append_seam v newline [] 0

-- so a newline comes before a cut that is not the start
newline_before : (dialect : Dialect) (text : List ℕ) (other : ℕ) → IsCutAt dialect text other → 0 < other
    → slice_index text (other - 1) ≡ newline
newline_before dialect text other there some =
    let u = take other text in
    let len : length u ≡ other = length-take-le other text there.within in
    elim (ends_with_newline dialect u (there.pieces ++ [] ∷ []) there.pieces refl there.are) [
      | inl none ↦ absurd (omega (arith, ap (λ (l : List ℕ). length l) none, len, some))
      | inr ends ↦ last_of_front text ends.0 other ends.1 len some
    ]

-- no byte of a text from one place up to another is a newline
abbrev pub NoNewline : List ℕ → ℕ → ℕ → Type 0
NoNewline text from to = Nowhere (λ j. slice_index text j ≡ newline) from to

-- a byte of a text that is in a part of it
in_part : (text rest : List ℕ) (at j : ℕ) → rest ≡ slice_range text at (at + length rest) → j < length rest
    → slice_index rest j ≡ slice_index text (at + j)
in_part text rest at j are h = grind (arith, get_or-take, get_or-drop)

-- the same by its place in the text
seen_in_part : (text rest : List ℕ) (at k : ℕ) → rest ≡ slice_range text at (at + length rest) → at ≤ k → k < at + length rest
    → slice_index rest (k - at) ≡ slice_index text k
seen_in_part text rest at k are low high =
    in_part text rest at (k - at) are (omega arith) ∙ ap (λ (j : ℕ). slice_index text j) (omega arith)

-- none of the bytes that come next is a newline
pub none_on : (text rest : List ℕ) (from at : ℕ) → NoNewline text from at → rest ≡ slice_range text at (at + length rest)
    → IsFirstByte (is_byte newline) rest None → NoNewline text from (at + length rest)
none_on text rest from at none are found k low high is =
    elim (below_or_not k at) [
      | inl less ↦ none k low less is
      | inr more ↦ found (k - at) (omega arith) (omega (arith, high, more))
          (eq-eqb (slice_index rest (k - at)) newline (seen_in_part text rest at k are more high ∙ is))
    ]

-- no newline comes before the first one
newline_within : (text rest : List ℕ) (from at i k : ℕ) → NoNewline text from at → rest ≡ slice_range text at (at + length rest)
    → IsFirstByte (is_byte newline) rest (Some i) → from ≤ k → k < at + i → slice_index text k ≡ newline → ⊥
newline_within text rest from at i k none are found low high is =
    elim (below_or_not k at) [
      | inl less ↦ none k low less is
      | inr more ↦
          found.0.before (k - at) (omega arith) (omega (arith, high, more))
          (eq-eqb (slice_index rest (k - at)) newline
          (seen_in_part text rest at k are more (omega (arith, high, found.0.high)) ∙ is))
    ]

-- no cut at a place or after it comes before the first newline
none_passed : (text rest : List ℕ) (from at i new other : ℕ) → NoNewline text from at → rest ≡ slice_range text at (at + length rest)
    → IsFirstByte (is_byte newline) rest (Some i) → new ≡ at + i + 1 → from + 1 ≤ other → slice_index text (other - 1) ≡ newline → new ≤ other
none_passed text rest from at i new other none are found is low newline_is =
    not_below other new (λ less. newline_within text rest from at i (other - 1) none are found (omega (arith, low)) (omega (arith, less, is, low)) newline_is)

-- the first newline at a place or after it is at this one, so the place after that is a cut, and no other passes the first
pub newline_found : PiecesExist → LinesJoin → (text rest : List ℕ) (from at i new : ℕ) → NoNewline text from at
    → rest ≡ slice_range text at (at + length rest) → at + length rest ≤ length text → IsFirstByte (is_byte newline) rest (Some i)
    → new ≡ at + i + 1 → IsCutAt NewlineDelimited text new × PassesNone NewlineDelimited text (from + 1) new
newline_found exist join text rest from at i new none are within found is =
    let k = at + i in
    let here : slice_index text k ≡ newline = sym (in_part text rest at i are found.0.high) ∙ eqb-true (slice_index rest i) newline found.1 in (
      cut_after_newline exist join text k new (omega (arith, found.0.high, within)) here is,
      λ other there further. none_passed text rest from at i new other none are found is further
          (newline_before NewlineDelimited text other there (omega (arith, further))),
    )

-- a walk that went to the place after the first newline at the byte before a place, or after it
pub jump_found : PiecesExist → LinesJoin → (dialect : Dialect) (text rest : List ℕ) (place at i : ℕ) (new : Walk) → dialect ≡ NewlineDelimited
    → 0 < place → NoNewline text (place - 1) at → rest ≡ slice_range text at (at + length rest) → at + length rest ≤ length text
    → IsFirstByte (is_byte newline) rest (Some i) → new ≡ record { at = at + i + 1; given = at + i + 1; track = None }
    → IsWalkOf dialect text new × PassesNone dialect text place new.at
jump_found exist join dialect text rest place at i new is some none are within found there =
    let h = newline_found exist join text rest (place - 1) at i (at + i + 1) none are within found refl in
    rw (is, there) (
      walk_begins NewlineDelimited text (at + i + 1) h.0,
      λ other cut_there low. h.1 other cut_there (omega (arith, some, low)),
    )
