-- Keys of series that stand in a text.
use Rattle.std.specs.Prelude.{◌≡◌, ℕ, true, false, Option, List, [], ◌∷◌, ◌++◌, flat_map, MatchOption}
use Rattle.std.specs.{Borrow.Bor, Cmp.Lexicographic.slice_cmp, List.AllByRecursion, Ordering.is_lt, Ordering.nat_cmp}
use Rattle.lp_format.specs.format.{backslash, escaped, is_admitted_name, is_admitted_tag, is_one_of, space, spelling}
use Rattle.lp_format.specs.format.{Tag, a_measurement, a_tag_key, a_tag_value, built_tag}
use Rattle.lp_lines.specs.code.Keys.{series_key}
use Rattle.lp_written.specs.code.AsWritten.{EndsName, IsWritten, pair_text}

-- The key and the value of the tag are admitted.
abbrev pub IsTag : Tag → Type 0
IsTag t = is_admitted_tag t ≡ true

-- The text is the key of a series whose names are all admitted.
pub record IsAdmittedKey (text : List ℕ) : Type 0 where
  pub measurement : List ℕ
  pub tags : List Tag
  pub named : is_admitted_name a_measurement measurement ≡ true
  pub tagged : AllByRecursion IsTag tags
  pub is : series_key measurement tags ≡ text

-- The text after a series: nothing, or a text that begins with a space.
abbrev pub EndsSeries : List ℕ → Type 0
EndsSeries [] = Unit {0}
EndsSeries (b ∷ rest) = b ≡ space

-- With a result, the result is the key of a series whose names are all admitted, at the start of the text, and the series ends after it.
-- Without a result, no front of the text is such a key.
abbrev pub LendsKey : List ℕ → Option (Bor (List ℕ)) → Type 0
LendsKey text result = MatchOption result ((key rest : List ℕ) → key ++ rest ≡ text → EndsSeries rest → IsAdmittedKey key → ⊥)
    (λ key. IsAdmittedKey key.now × ((rest : List ℕ) × (key.now ++ rest ≡ text) × EndsSeries rest))

-- The result splits the text of a name, as the builder writes it, after the first byte of the name. Without a result, the name is empty.
abbrev pub TakesByte : List ℕ → Option (ℕ × Bor (List ℕ)) → Type 0
TakesByte text result = (known name : List ℕ) → is_one_of known backslash ≡ true → text ≡ escaped known name
    → MatchOption result (name ≡ []) (λ p. (more : List ℕ) × (name ≡ p.0 ∷ more) × (p.1.now ≡ escaped known more))

-- A key is not less than the key before it.
abbrev pub IsNotLess : List ℕ → List ℕ → Type 0
IsNotLess before key = is_lt (slice_cmp nat_cmp key before) ≡ false

-- Each key is not less than the key before it, and the first key is not less than this key.
abbrev pub AreInOrder : List ℕ → List Tag → Type 0
AreInOrder before [] = Unit {0}
AreInOrder before (t ∷ tags) = IsNotLess before t.key × AreInOrder t.key tags

-- The text is admitted tags in order as the builder writes them, each after a comma, and then this rest.
abbrev pub AreTagsAfter : List ℕ → List ℕ → List ℕ → Type 0
AreTagsAfter before = IsWritten (flat_map built_tag) (λ tags. AllByRecursion IsTag tags × AreInOrder before tags)

-- The text is admitted tags in order as the builder writes them, with no tag before them, and then this rest.
abbrev pub AreTagsFront : List ℕ → List ℕ → Type 0
AreTagsFront = AreTagsAfter []

-- The text of a tag, without the comma before it.
abbrev pub tag_text : Tag → List ℕ
tag_text = pair_text a_tag_key (spelling a_tag_value)

-- With a result, the text begins with an admitted tag whose key is not less than the key with this spelling, and the result is that key and
-- the rest after the tag. Without a result, the text begins with no such tag.
abbrev pub IsTagAfter : List ℕ → List ℕ → Option (Bor (List ℕ) × Bor (List ℕ)) → Type 0
IsTagAfter spelled text result = (before : List ℕ) → spelled ≡ spelling a_tag_key before → MatchOption result
    ((t : Tag) (rest : List ℕ) → IsTag t → tag_text t ++ rest ≡ text → EndsName a_tag_value rest → IsNotLess before t.key → ⊥)
    (λ p. (t : Tag) × IsTag t × (tag_text t ++ p.1.now ≡ text) × (p.0.now ≡ spelling a_tag_key t.key) × IsNotLess before t.key
    × ((u : Tag) (rest : List ℕ) → IsTag u → tag_text u ++ rest ≡ text → EndsName a_tag_value rest → (u ≡ t) × (rest ≡ p.1.now)))
