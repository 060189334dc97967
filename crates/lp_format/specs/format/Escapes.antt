-- Escapes: a backslash and the byte after it, and the logical text of a text.
use Rattle.std.specs.Prelude.{◌≡◌, ℕ, ◌+◌, ◌<◌, ◌≤◌, ◌%◌, ◌==◌, ◌&&◌, Bool, false, not, List, [], ◌∷◌, ◌++◌, length, take, slice_index}
use Rattle.std.specs.Prelude.{if◌then◌else◌}
use Rattle.std.specs.List.{position_or_len, range_with_len, suffix_len, flat_map}
use Rattle.lp_format.specs.format.Bytes.{backslash, is_one_of}

-- whether the byte after `front` is escaped: `front` ends in an odd number of backslashes
unfoldable pub is_escaped_after : List ℕ → Bool
is_escaped_after front = suffix_len (λ b. b == backslash) front % 2 == 1

-- the byte after `front` is bare, that is, not escaped
abbrev pub IsBareAfter : List ℕ → Type 0
IsBareAfter front = is_escaped_after front ≡ false

-- the bare bytes of a text that comes after `front`, in order
abbrev pub bare_after : List ℕ → List ℕ → List ℕ
bare_after front [] = []
bare_after front (b ∷ bs) = (if is_escaped_after front then [] else b ∷ []) ++ bare_after (front ++ b ∷ []) bs

-- the bare bytes of a text, in order
abbrev pub bare : List ℕ → List ℕ
bare text = bare_after [] text

-- whether the byte at this place of the text is bare and passes the test
abbrev pub is_bare_at : (ℕ → Bool) → List ℕ → ℕ → Bool
is_bare_at passes text place = passes (slice_index text place) && not (is_escaped_after (take place text))

-- the place of the first bare byte that passes the test, or the length of the text if there is none
unfoldable pub first_bare : (ℕ → Bool) → List ℕ → ℕ
first_bare passes text = position_or_len (is_bare_at passes text) (range_with_len 0 (length text))

-- the logical text of a text: a backslash before one of the known bytes goes, every other byte stays
unfoldable pub without_escapes : List ℕ → List ℕ → List ℕ
without_escapes known [] = []
without_escapes known (b ∷ []) = b ∷ []
without_escapes known (b ∷ c ∷ rest) =
    if b == backslash then
    if is_one_of known c then c ∷ without_escapes known rest else b ∷ c ∷ without_escapes known rest
    else b ∷ without_escapes known (c ∷ rest)

-- one byte, with a backslash before it if it is one of `bytes`
abbrev pub escaped_byte : List ℕ → ℕ → List ℕ
escaped_byte bytes b = if is_one_of bytes b then backslash ∷ b ∷ [] else b ∷ []

-- the text with a backslash before each byte that is one of `bytes`
unfoldable pub escaped : List ℕ → List ℕ → List ℕ
escaped bytes text = flat_map (escaped_byte bytes) text

-- a scan at the place `at`, which is bare: no byte before it is a bare stop, and `found` known escapes are before it
pub record EscapeScan (known : List ℕ) (stops : ℕ → Bool) (text : List ℕ) (at found : ℕ) : Type 0 where
  pub within : at ≤ length text
  pub bare : is_escaped_after (take at text) ≡ false
  pub passed : (k : ℕ) → k < at → is_bare_at stops text k ≡ false
  pub counted : length (without_escapes known (take at text)) + found ≡ at
