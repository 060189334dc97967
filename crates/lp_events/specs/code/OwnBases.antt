-- Whether the text of a series is its base, and the data that tells so while tags are read.
use Rattle.std.specs.Prelude.{◌≡◌, ℕ, ◌&&◌, Bool, true, List, [], ◌∷◌, Ok, map}
use Rattle.std.specs.{Cmp.Lexicographic.slice_cmp, List.list_all, Ordering.is_lt, Ordering.nat_cmp}
use Rattle.lp_format.specs.{code.Light.is_single_tag, format.Dialect, format.Line, format.Pair, format.Text, format.answer, format.some_tags}
use Rattle.lp_events.specs.declared.bases.Kept.{Kept}

-- whether each text is greater than the one before it, by bytes
abbrev pub is_strictly_sorted : List (List ℕ) → Bool
is_strictly_sorted [] = true
is_strictly_sorted (k ∷ []) = true
is_strictly_sorted (k ∷ l ∷ keys) = is_lt (slice_cmp nat_cmp k l) && is_strictly_sorted (l ∷ keys)

-- the keys of tags, in order
abbrev pub keys_of : List (Pair Text Text) → List (List ℕ)
keys_of tags = map (λ t. t.key.bytes) tags

-- whether the text of a series with these names is its base: no name is a copy, and each key is greater than the one before it
unfoldable pub is_own_base : Text → List (Pair Text Text) → Bool
is_own_base measurement tags = is_strictly_sorted (keys_of tags) && (measurement.is_single && list_all is_single_tag tags)

-- in each dialect that reads this line, `is_base` tells whether the text of its series is its base
abbrev pub TellsBase : List ℕ → Bool → Type 0
TellsBase line is_base =
    (dialect : Dialect) (read : Line) → answer dialect line ≡ Ok read → is_base ≡ is_own_base read.measurement (some_tags read.tags)

-- the last of some texts, or the empty text if there are none
abbrev pub last_of : List (List ℕ) → List ℕ
last_of [] = []
last_of (k ∷ []) = k
last_of (k ∷ l ∷ keys) = last_of (l ∷ keys)

-- the data that is kept of a series with these names: whether the text of the series is its base, and, if so, the last key
pub record IsKeptOf (measurement : Text) (tags : List (Pair Text Text)) (kept : Kept) : Type 0 where
  pub is_base : kept.is_base ≡ is_own_base measurement tags
  pub last : kept.is_base ≡ true → kept.last.now ≡ last_of (keys_of tags)

-- the data goes on from a series without tags to a series with these tags
abbrev pub KeepsOn : Kept → List (Pair Text Text) → Kept → Type 0
KeepsOn before tags after = (measurement : Text) → IsKeptOf measurement [] before → IsKeptOf measurement tags after
