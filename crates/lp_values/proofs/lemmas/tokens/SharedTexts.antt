-- Spellings whose logical text is a part of the input.
use Rattle.std.proofs.Common.{◌≡◌, ℕ, List, [], ◌∷◌, length, true, false, refl, arith, inl, inr, eqb-true, ◌<◌, slice_index}
use Rattle.std.specs.Prelude.{◌==◌}
use Rattle.std.proofs.lemmas.Bool.{and_parts, cases_Bool, false≢true}
use Rattle.lp_format.specs.format.Bytes.{backslash, is_one_of}
use Rattle.lp_format.specs.format.Escapes.{without_escapes}
use Rattle.lp_format.specs.format.Names.{is_one_escape, is_shared}
use Rattle.lp_scan.specs.{code.known_of, declared.sets.TokenKind.TokenKind}

-- a spelling of two bytes with a logical text of one byte is an escape
pub one_of_two : (known text : List ℕ) → length text ≡ 2 → length (without_escapes known text) ≡ 1 → is_one_escape known text ≡ true
unfolding without_escapes
one_of_two known [] two one = absurd (omega (arith, two))
one_of_two known (b ∷ []) two one = absurd (omega (arith, two))
one_of_two known (b ∷ c ∷ []) two one =
    elim (cases_Bool (b == backslash)) [
      | inl mark ↦ elim (cases_Bool (is_one_of known c)) [
        | inl is ↦ rw (mark, is) refl
        | inr other ↦ absurd (let both = rw (mark, other) at one in omega (arith, both))
      ]
      | inr other ↦ absurd (let both = rw other at one in omega (arith, both))
    ]
one_of_two known (b ∷ c ∷ d ∷ rest) two one = absurd (omega (arith, two))

-- a known escape has two bytes, and its logical text has one
escape_lens : (known text : List ℕ) → is_one_escape known text ≡ true
    → (length text ≡ 2) × (length (without_escapes known text) ≡ 1)
unfolding without_escapes
escape_lens known [] h = absurd (false≢true h)
escape_lens known (b ∷ []) h = absurd (false≢true h)
escape_lens known (b ∷ c ∷ []) h =
    let parts = and_parts (b == backslash) (is_one_of known c) h in
    (refl, rw (parts.0, parts.1) refl)
escape_lens known (b ∷ c ∷ d ∷ rest) h = absurd (false≢true h)

-- a spelling with a backslash is not shared, unless it has two bytes and its logical text one
pub not_shared : (known text : List ℕ) → is_one_of text backslash ≡ true
    → (length text ≡ 2 → length (without_escapes known text) ≡ 1 → ⊥) → is_shared known text ≡ false
not_shared known text some apart =
    elim (cases_Bool (is_one_escape known text)) [
      | inl is ↦ absurd (let lens = escape_lens known text is in apart lens.0 lens.1)
      | inr other ↦ rw (other, some) refl
    ]

-- a byte that a backslash may escape is ASCII
known_is_ascii : (kind : TokenKind) (b : ℕ) → is_one_of (known_of kind) b ≡ true → b < 128
known_is_ascii kind b h = grind (arith, eqb-true)

-- a known escape has an ASCII byte after its backslash, so that a character begins there
pub escaped_is_ascii : (kind : TokenKind) (text : List ℕ) → is_one_escape (known_of kind) text ≡ true → slice_index text 1 < 128
escaped_is_ascii kind [] h = absurd (false≢true h)
escaped_is_ascii kind (b ∷ []) h = absurd (false≢true h)
escaped_is_ascii kind (b ∷ c ∷ []) h = known_is_ascii kind c (and_parts (b == backslash) (is_one_of (known_of kind) c) h).1
escaped_is_ascii kind (b ∷ c ∷ d ∷ rest) h = absurd (false≢true h)
