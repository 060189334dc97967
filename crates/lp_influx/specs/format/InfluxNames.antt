-- Names and tags, as InfluxDB 1.x reads them: a byte ends a name if no backslash is directly before the byte.
use Rattle.std.specs.Prelude.{ℕ, ◌==◌, ◌&&◌, Bool, false, not, List, [], ◌∷◌, length, drop, if◌then◌else◌}
use Rattle.lp_format.specs.format.{Pair, Reading, ◌>>=◌, after_comma, backslash, byte, comma, equals, is_one_of, many, miss, quote, reads, space}
use Rattle.lp_portable.specs.format.Spellings.{without_each}

-- The text before the first of these bytes that has no backslash directly before it. The second argument is whether a backslash is before
-- the text.
unfoldable pub until : List ℕ → Bool → List ℕ → List ℕ
until ends escaped [] = []
until ends escaped (b ∷ text) = if not escaped && is_one_of ends b then [] else b ∷ until ends (b == backslash) text

-- Reads a front of the text, if it is not empty.
abbrev pub some_of : List ℕ → List ℕ → Reading (List ℕ)
some_of front text = if length front == 0 then miss else reads front (drop (length front) text)

-- Reads a measurement.
abbrev pub measurement_at : List ℕ → Reading (List ℕ)
measurement_at text = some_of (until (comma ∷ space ∷ []) false text) text

-- The bytes that end the key or the value of a tag.
abbrev pub tag_ends : List ℕ
tag_ends = comma ∷ equals ∷ space ∷ []

-- The value of a tag at the start of a text. An equals sign may be its first byte.
abbrev pub value_front : List ℕ → List ℕ
value_front [] = []
value_front (b ∷ text) = if b == equals then b ∷ until tag_ends false text else until tag_ends false (b ∷ text)

-- Reads a tag.
abbrev pub influx_tag : List ℕ → Reading (Pair (List ℕ) (List ℕ))
influx_tag text = do
  key ← some_of (until tag_ends false text) text
  sign ← byte equals key.rest
  x ← some_of (value_front sign.rest) sign.rest
  reads (record { key = key.value; value = x.value }) x.rest

-- Reads the tags after a measurement.
abbrev pub influx_tags : List ℕ → Reading (List (Pair (List ℕ) (List ℕ)))
influx_tags text = many (after_comma influx_tag) (length text) text

-- The logical text of a measurement or a field key: a backslash before one of these bytes is dropped.
abbrev pub influx_name : List ℕ → List ℕ
influx_name name = without_each (comma ∷ quote ∷ space ∷ equals ∷ []) name

-- A tag with its logical texts. A backslash before a quote stays.
abbrev pub influx_names : Pair (List ℕ) (List ℕ) → Pair (List ℕ) (List ℕ)
influx_names t = record { key = without_each (comma ∷ space ∷ equals ∷ []) t.key; value = without_each (comma ∷ space ∷ equals ∷ []) t.value }
