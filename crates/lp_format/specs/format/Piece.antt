-- The shape of a piece: a head, and a tail of plain and quoted stretches by turns.
-- A stretch begins with a bare space or comes after a quote, so no run of backslashes reaches into it.
use Rattle.std.specs.Prelude.{◌≡◌, ◌≢◌, ℕ, ◌<◌, ◌⊎◌, List, [], ◌∷◌, ◌++◌, ◌==◌, All, count_by}
use Rattle.lp_format.specs.format.{Bytes.newline, Bytes.space, Bytes.quote, Bytes.comma, Bytes.equals, Escapes.bare, Escapes.IsBareAfter}

-- a head: a text without a bare space and without a bare newline
abbrev pub IsHead : List ℕ → Type 0
IsHead text = All (λ b. (b ≢ space) × (b ≢ newline)) (bare text)

-- bytes that hold more `=` than `,`
abbrev pub HasMoreEquals : List ℕ → Type 0
HasMoreEquals counted = count_by (λ b. b == comma) counted < count_by (λ b. b == equals) counted

-- a plain stretch, where `counted` are the bare bytes of the plain stretches before it: no bare newline, and
-- no bare quote at a place where the plain stretches so far hold more bare `=` than bare `,`
pub record IsPlain (counted text : List ℕ) : Type 0 where
  pub no_newline : All (λ b. b ≢ newline) (bare text)
  pub no_opening : (before after : List ℕ) → bare text ≡ before ++ quote ∷ after → ¬ HasMoreEquals (counted ++ before)

-- a quote after `piece` opens a quoted stretch, where `counted` are the bare bytes of its plain stretches
abbrev pub Opens : List ℕ → List ℕ → Type 0
Opens piece counted = IsBareAfter piece × HasMoreEquals counted

-- the text between the quotes of a quoted stretch: it holds no bare quote
abbrev pub IsQuoted : List ℕ → Type 0
IsQuoted text = All (λ b. b ≢ quote) (bare text)

-- a text that is a head and a tail whose last stretch is plain, with the bare bytes of its plain stretches
pub data EndsPlain : List ℕ → List ℕ → Type 0 where
  first : (head plain : List ℕ) → IsHead head → IsBareAfter head → IsPlain [] (space ∷ plain)
      → EndsPlain (head ++ space ∷ plain) (bare (space ∷ plain))
  later : (piece counted quoted plain : List ℕ) → EndsPlain piece counted → Opens piece counted → IsQuoted quoted
      → IsBareAfter (piece ++ quote ∷ quoted) → IsPlain counted plain
      → EndsPlain ((piece ++ quote ∷ quoted) ++ quote ∷ plain) (counted ++ bare plain)

-- a text that is a head and a tail whose last stretch is quoted and not closed, with the bare bytes of its plain stretches
pub data EndsQuoted : List ℕ → List ℕ → Type 0 where
  opened : (piece counted quoted : List ℕ) → EndsPlain piece counted → Opens piece counted → IsQuoted quoted
      → EndsQuoted (piece ++ quote ∷ quoted) counted

-- a closed text: a head, or a head and a tail that ends in a plain stretch
abbrev pub IsClosed : List ℕ → Type 0
IsClosed text = IsHead text ⊎ ((counted : List ℕ) × EndsPlain text counted)

-- an open text: a head and a tail that ends in a quoted stretch without its last quote
abbrev pub IsOpen : List ℕ → Type 0
IsOpen text = (counted : List ℕ) × EndsQuoted text counted
