-- No text is longer than its spelling.
use Rattle.std.proofs.Common.{◌≡◌, ℕ, List, [], ◌∷◌, ◌≤◌, length, arith, inl, inr, ap, take}
use Rattle.std.specs.Prelude.{◌==◌}
use Rattle.std.proofs.lemmas.Bool.{cases_Bool}
use Rattle.std.proofs.lemmas.List.{length-take-le}
use Rattle.lp_format.specs.format.Bytes.{backslash, is_one_of}
use Rattle.lp_format.specs.format.Escapes.{without_escapes}

-- no text takes more bytes than its spelling
no_longer : (known text : List ℕ) → length (without_escapes known text) ≤ length text
unfolding without_escapes
no_longer known [] = omega arith
no_longer known (b ∷ []) = omega arith
no_longer known (b ∷ c ∷ rest) =
    let less = no_longer known rest in
    let more = no_longer known (c ∷ rest) in
    elim (cases_Bool (b == backslash)) [
      | inl mark ↦ elim (cases_Bool (is_one_of known c)) [
        | inl is ↦ rw (mark, is) (omega (arith, less))
        | inr other ↦ rw (mark, other) (omega (arith, less))
      ]
      | inr other ↦ rw other (omega (arith, more))
    ]

-- so the front of a spelling that has so many bytes is there
pub copy_fits : (known text bytes : List ℕ) (n : ℕ) → bytes ≡ text → n ≡ length (without_escapes known text) → length (take n bytes) ≡ n
copy_fits known text bytes n is len = length-take-le n bytes (omega (arith, len, no_longer known text, ap length is))
