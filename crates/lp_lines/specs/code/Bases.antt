-- The base of a series, which is a text by which series can be grouped, and whether it is safe to group by it.
use Rattle.std.specs.Prelude.{◌≡◌, ℕ, ◌<◌, ◌==◌, ◌&&◌, ◌||◌, Bool, true, false, not, List, [], ◌∷◌, ◌++◌, length, take, map, slice_index_or}
use Rattle.std.specs.Prelude.{if◌then◌else◌, Result, Ok, Err, string_bytes, flat_map, bytes_eq}
use Rattle.std.specs.{List.list_all, List.list_any}
use Rattle.std.specs.{List.position_or_len, List.range_with_len, declared.borrow.CowStr.CowStr}
use Rattle.std.specs.{declared.borrow.CowStr.TheVariants.Borrowed, declared.borrow.CowStr.TheVariants.Owned}
use Rattle.lp_values.specs.declared.{error.Error.Error, error.Error.TheVariants.DuplicateTag, error.Error.TheVariants.OutOfMemory}
use Rattle.lp_format.specs.format.{comma, equals, is_one_of, a_measurement, a_tag_key, a_tag_value, escapable, Text, Pair}
use Rattle.lp_format.specs.code.Light.{is_single_tag}
use Rattle.lp_events.specs.code.OwnBases.{is_strictly_sorted, keys_of}
use Rattle.lp_lines.specs.code.Keys.{sorted_by}

-- a base: a part of the input, or a text of its own; there is no base if this key is repeated
pub data Base : Type 0 where
  borrowed owned duplicate_key : List ℕ → Base

-- whether the text at this place is also at an earlier place
abbrev pub is_repeated_at : List (List ℕ) → ℕ → Bool
is_repeated_at keys place = list_any (bytes_eq (slice_index_or keys place [])) (take place keys)

-- the first place whose text is also at an earlier place, or the number of texts if there is none
unfoldable pub first_repeated : List (List ℕ) → ℕ
first_repeated keys = position_or_len (is_repeated_at keys) (range_with_len 0 (length keys))

-- the keys and values of tags, in the order of the tags
abbrev pub in_order : List (Pair Text Text) → List (List ℕ × List ℕ)
in_order tags = map (λ t. (t.key.bytes, t.value.bytes)) tags

-- the keys and values of tags, in the order of the keys
unfoldable pub by_key : List (Pair Text Text) → List (List ℕ × List ℕ)
by_key tags = sorted_by (λ e. e.0) (in_order tags)

-- the text of a tag in a base: a comma, the key, an equals sign and the value, without escapes
abbrev pub based_tag : List ℕ × List ℕ → List ℕ
based_tag t = comma ∷ t.0 ++ equals ∷ t.1

-- the text of a base: the measurement and the tags, without escapes
abbrev pub base_text : List ℕ → List (List ℕ × List ℕ) → List ℕ
base_text measurement tags = measurement ++ flat_map based_tag tags

-- the base of a series whose keys do not rise: its tags in the order of the keys, or no base if a key is repeated
unfoldable pub base_by_key : List ℕ → List (Pair Text Text) → Base
base_by_key measurement tags = if first_repeated (keys_of tags) == length tags then owned (base_text measurement (by_key tags))
    else duplicate_key (slice_index_or (keys_of tags) (first_repeated (keys_of tags)) [])

-- the base of a series with this raw text, this measurement and these tags
unfoldable pub base_of : List ℕ → Text → List (Pair Text Text) → Base
base_of raw measurement tags = if is_strictly_sorted (keys_of tags) then
    if measurement.is_single && list_all is_single_tag tags then borrowed raw
    else owned (base_text measurement.bytes (in_order tags))
    else base_by_key measurement.bytes tags

-- whether a text is one of these bytes alone
abbrev pub is_byte_alone : List ℕ → List ℕ → Bool
is_byte_alone bytes (b ∷ []) = is_one_of bytes b
is_byte_alone bytes text = false

-- whether a name is ambiguous in a base: it holds the byte that divides it from the next name, or it is only one byte that a backslash may
-- escape in it. Some bases spell this byte with the backslash.
abbrev pub is_ambiguous_name : List ℕ → ℕ → List ℕ → Bool
is_ambiguous_name known divider text = is_one_of text divider || is_byte_alone known text

-- whether the key or the value of a tag is ambiguous in a base
abbrev pub is_ambiguous_tag : Pair Text Text → Bool
is_ambiguous_tag t =
    is_ambiguous_name (escapable a_tag_key) equals t.key.bytes || is_ambiguous_name (escapable a_tag_value) comma t.value.bytes

-- whether the base of a series is safe to group by: none of its names is ambiguous
abbrev pub is_base_safe : Text → List (Pair Text Text) → Bool
is_base_safe measurement tags = not (is_ambiguous_name (escapable a_measurement) comma measurement.bytes || list_any is_ambiguous_tag tags)

-- the result of the code is this base, borrowed exactly if the base is a part of the input, or is `OutOfMemory`
abbrev pub GivesBase : {A : Type 0} → Result (CowStr A) Error → Base → Type 0
GivesBase (Ok (Borrowed text)) base = base ≡ borrowed text.now
GivesBase (Ok (Owned text)) base = base ≡ owned (string_bytes text)
GivesBase (Err (DuplicateTag key)) base = base ≡ duplicate_key (string_bytes key)
GivesBase (Err OutOfMemory) base = Unit {0}
GivesBase (Err e) base = ⊥

-- whether a base is a part of the input
abbrev pub is_borrowed : Base → Bool
is_borrowed (borrowed text) = true
is_borrowed base = false

-- the result of a search of the keys: no key is repeated, or the first key that is repeated, or `OutOfMemory`
abbrev pub TellsRepeated : {A : Type 0} → Result A Error → List (Pair Text Text) → Type 0
TellsRepeated (Ok none) tags = first_repeated (keys_of tags) ≡ length tags
TellsRepeated (Err (DuplicateTag key)) tags = (first_repeated (keys_of tags) < length tags)
    × (string_bytes key ≡ slice_index_or (keys_of tags) (first_repeated (keys_of tags)) [])
TellsRepeated (Err OutOfMemory) tags = Unit {0}
TellsRepeated (Err e) tags = ⊥
