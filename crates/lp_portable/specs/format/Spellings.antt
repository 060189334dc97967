-- The spellings of the names of a line.
use Rattle.std.specs.Prelude.{◌≡◌, ℕ, ◌==◌, ◌&&◌, ◌||◌, Bool, false, List, [], ◌∷◌, drop, length, if◌then◌else◌}
use Rattle.lp_format.specs.format.{NameKind, a_measurement, after_comma, a_tag_key, a_tag_value, a_field_key, backslash, byte, equals, is_one_of, name}
use Rattle.lp_format.specs.format.{Line, Pair, Reading, reads, some_tags, spaces, spelled, value, ◌>>=◌}

-- Reads a name and gives it as it is spelled.
abbrev pub name_text : NameKind → List ℕ → Reading (List ℕ)
name_text kind text = name kind text >>= λ n. reads (spelled kind text) n.rest

-- Reads a tag and gives its names as they are spelled.
abbrev pub tag_text : List ℕ → Reading (Pair (List ℕ) (List ℕ))
tag_text text = do
  key ← name_text a_tag_key text
  sign ← byte equals key.rest
  x ← name_text a_tag_value sign.rest
  reads (record { key = key.value; value = x.value }) x.rest

-- Reads a field and gives its key as it is spelled.
abbrev pub key_text : List ℕ → Reading (List ℕ)
key_text text = do
  key ← name_text a_field_key text
  sign ← byte equals key.rest
  x ← value sign.rest
  reads key.value x.rest

-- The text begins with these parts, each after a comma, and then this rest follows.
abbrev pub AreAfterCommas : {A : Type 0} → (List ℕ → Reading A) → List A → List ℕ → List ℕ → Type 0
AreAfterCommas one [] text rest = text ≡ rest
AreAfterCommas one (x ∷ xs) text rest = (after : List ℕ) × (after_comma one text ≡ reads x after) × AreAfterCommas one xs after rest

-- The text begins with these parts, with commas between them, and then this rest follows.
abbrev pub AreJoined : {A : Type 0} → (List ℕ → Reading A) → List A → List ℕ → List ℕ → Type 0
AreJoined one [] text rest = text ≡ rest
AreJoined one (x ∷ xs) text rest = (after : List ℕ) × (one text ≡ reads x after) × AreAfterCommas one xs after rest

-- The names of a line as they are spelled: the measurement, the tags, and the keys of the fields.
pub record Spelling : Type 0 where
  pub measurement : List ℕ
  pub tags : List (Pair (List ℕ) (List ℕ))
  pub keys : List (List ℕ)

-- The names of a line have this spelling: each name stands at its place in the text, and there are as many names as the line has.
pub record IsSpelled (text : List ℕ) (line : Line) (names : Spelling) : Type 0 where
  pub after_name : List ℕ
  pub after_tags : List ℕ
  pub rest : List ℕ
  pub measurement : name_text a_measurement text ≡ reads names.measurement after_name
  pub tags : AreAfterCommas tag_text names.tags after_name after_tags
  pub keys : AreJoined key_text names.keys (drop (spaces after_tags) after_tags) rest
  pub all_tags : length names.tags ≡ length (some_tags line.tags)
  pub all_keys : length names.keys ≡ length line.fields

-- Whether a spelling holds one of some bytes escaped, or one of other bytes bare. A bare backslash escapes the byte after it.
unfoldable pub holds : List ℕ → List ℕ → List ℕ → Bool
holds escaped bare [] = false
holds escaped bare (b ∷ []) = is_one_of bare b
holds escaped bare (b ∷ c ∷ rest) =
    if b == backslash then is_one_of escaped c || holds escaped bare rest else is_one_of bare b || holds escaped bare (c ∷ rest)

-- The logical text for a reader that takes each backslash by itself: a backslash is dropped if a known byte follows it, and otherwise
-- stays.
abbrev pub without_each : List ℕ → List ℕ → List ℕ
without_each known [] = []
without_each known (b ∷ []) = b ∷ []
without_each known (b ∷ c ∷ rest) =
    if b == backslash && is_one_of known c then c ∷ without_each known rest else b ∷ without_each known (c ∷ rest)
