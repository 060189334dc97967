-- Pieces and their lines, which have no carriage return at their end if it is dropped.
use Rattle.std.proofs.Common.{◌≡◌, ◌≢◌, ◌-◌, ◌==◌, ℕ, Bool, false, List, [], ◌∷◌, ◌++◌, length, take, slice_index, cond}
use Rattle.std.proofs.Common.{refl, sym, subst, arith, inl, inr}
use Rattle.std.specs.Str.{IsUtf8}
use Rattle.std.specs.Str.Lines.{strip_carriage_return}
use Rattle.std.proofs.lemmas.Bool.{cases_Bool, eqb-true}
use Rattle.std.proofs.lemmas.Grind.{common_steps}
use Rattle.std.proofs.lemmas.Str.{IsUtf8-append, IsUtf8-from_ascii}
use Rattle.std.proofs.lemmas.Str.Ascii.{IsAscii-cons, IsAscii-nil}
use Rattle.lp_conditions.specs.declared.settings.Settings.{Settings}
use Rattle.lp_faults.specs.Relaying.{line_of}

-- bytes of which the last one is a carriage return are their front and that
ends_so : (l : List ℕ) → slice_index l (length l - 1) ≡ 13 → l ≡ take (length l - 1) l ++ 13 ∷ []
ends_so [] is = absurd (cc)
ends_so (b ∷ l) is = grind (arith, common_steps)

-- what does not end so stays
pub not_stripped : (l : List ℕ) → ((front : List ℕ) → l ≢ front ++ 13 ∷ []) → strip_carriage_return l ≡ l
not_stripped l none =
    elim (cases_Bool (slice_index l (length l - 1) == 13)) [
      | inl same ↦ absurd (none (take (length l - 1) l) (ends_so l (eqb-true _ 13 same)))
      | inr other ↦ rw other refl
    ]

-- what does loses that byte
pub stripped : (l front : List ℕ) → l ≡ front ++ 13 ∷ [] → strip_carriage_return l ≡ front
stripped l front is =
    let last : slice_index l (length l - 1) ≡ 13 = grind (arith, common_steps) in
    let same : take (length l - 1) l ≡ front = grind (arith, common_steps) in
    rw last same

-- if nothing is dropped, a piece is its line
pub whole_line : (s : Settings) (piece : List ℕ) → s.drops_returns ≡ false → line_of s piece ≡ piece
unfolding line_of
whole_line s piece kept = rw kept refl

-- no bytes have no bytes as their line
pub empty_line : (s : Settings) → line_of s [] ≡ []
unfolding line_of
empty_line s =
    elim (cases_Bool s.drops_returns) [
      | inl drops ↦ rw drops refl
      | inr keeps ↦ rw keeps refl
    ]

-- if bytes without a carriage return at their end are UTF-8, so are all of them
stripped_utf8 : (l : List ℕ) → IsUtf8 (strip_carriage_return l) → IsUtf8 l
stripped_utf8 l u =
    elim (cases_Bool (slice_index l (length l - 1) == 13)) [
      | inl same ↦
          let front = subst (λ (b : Bool). IsUtf8 (cond b (take (length l - 1) l) l)) same u in
          subst IsUtf8 (sym (ends_so l (eqb-true _ 13 same)))
          (IsUtf8-append (take (length l - 1) l) (13 ∷ []) front (IsUtf8-from_ascii (13 ∷ []) (IsAscii-cons 13 [] (omega arith) IsAscii-nil)))
      | inr other ↦ subst (λ (b : Bool). IsUtf8 (cond b (take (length l - 1) l) l)) other u
    ]

-- if a line is UTF-8, so is its piece
pub piece_utf8 : (s : Settings) (piece : List ℕ) → IsUtf8 (line_of s piece) → IsUtf8 piece
unfolding line_of
piece_utf8 s piece u =
    elim (cases_Bool s.drops_returns) [
      | inl drops ↦ stripped_utf8 piece (subst (λ (b : Bool). IsUtf8 (cond b (strip_carriage_return piece) piece)) drops u)
      | inr keeps ↦ subst (λ (b : Bool). IsUtf8 (cond b (strip_carriage_return piece) piece)) keeps u
    ]
