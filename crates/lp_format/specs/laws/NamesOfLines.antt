-- The names of the lines of a text, and the end of their fields.
use Rattle.std.specs.Prelude.{◌≡◌, ◌≢◌, ◌⊎◌, ℕ, ◌<◌, true, false, List, [], ◌∷◌, ◌++◌, length, drop, map, slice_index, Ok, Contains}
use Rattle.lp_format.specs.format.{Dialect, Strict, NewlineDelimited, HasNoNewline, line_of, space, hash, is_one_of, reads, NameKind, a_measurement, a_tag_key, a_tag_value, a_field_key}
use Rattle.lp_format.specs.format.{ends_in_backslash, name, Point, never_in, Line, tag_set, field_set, spaces}

-- the names of one kind in a point
abbrev pub names_of : NameKind → Point → List (List ℕ)
names_of a_measurement p = p.measurement ∷ []
names_of a_tag_key p = map (λ t. t.key) p.tags
names_of a_tag_value p = map (λ t. t.value) p.tags
names_of a_field_key p = map (λ f. f.key) p.fields

-- a name that is a measurement does not begin with `#`
abbrev pub BeginsNoComment : NameKind → List ℕ → Type 0
BeginsNoComment a_measurement n = slice_index n 0 ≢ hash
BeginsNoComment other n = Unit {0}

-- a name that a line can have
pub record IsParsedName (kind : NameKind) (n : List ℕ) : Type 0 where
  -- the name is not empty
  pub some : 0 < length n
  -- the name does not end in a backslash
  pub ends : ends_in_backslash n ≡ false
  -- a name that is a measurement does not begin with `#`
  pub begins : BeginsNoComment kind n
  -- each tab or newline in the name, and each NUL in a measurement, comes directly after a backslash
  pub after_backslash : (front back : List ℕ) (b : ℕ) → n ≡ front ++ b ∷ back → is_one_of (never_in kind) b ≡ true
      → ends_in_backslash front ≡ true

-- each name of the point is a name that a line can have
abbrev pub HasReadableNames : Point → Type 0
HasReadableNames p = (kind : NameKind) (n : List ℕ) → Contains (names_of kind p) n → IsParsedName kind n

-- in the newline-delimited dialect, the text holds no newline
abbrev pub IsOneLineIn : Dialect → List ℕ → Type 0
IsOneLineIn dialect text = dialect ≡ NewlineDelimited → HasNoNewline text

-- each name of the point is a name that a line can have, and in the newline-delimited dialect the line of the point holds no newline
abbrev pub IsReadableIn : Dialect → Point → Type 0
IsReadableIn dialect p = HasReadableNames p × IsOneLineIn dialect (line_of p)

-- an empty text, or a text that begins with a space
abbrev pub IsNothingOrSpaced : List ℕ → Type 0
IsNothingOrSpaced text = (text ≡ []) ⊎ ((rest : List ℕ) × (text ≡ space ∷ rest))

-- in the strict dialect, the fields that were read of a text are followed by nothing or by a space
pub record EndsItsFields (text : List ℕ) (line : Line) : Type 0 where
  pub measurement_rest : List ℕ
  pub tags_rest : List ℕ
  pub fields_rest : List ℕ
  pub measurement : name a_measurement text ≡ reads line.measurement measurement_rest
  pub tags : tag_set measurement_rest ≡ Ok (record { value = line.tags; rest = tags_rest })
  pub fields : field_set Strict (drop (spaces tags_rest) tags_rest) ≡ reads line.fields fields_rest
  pub ends : IsNothingOrSpaced fields_rest
