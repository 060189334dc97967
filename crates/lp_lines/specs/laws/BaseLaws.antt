-- The relation between bases and their series.
use Rattle.std.specs.Prelude.{◌≡◌, ◌↔◌, ℕ, zero, suc, ◌+◌, ◌||◌, Bool, true, false, List, [], ◌∷◌, ◌++◌, length, drop, map, Option, Some}
use Rattle.std.specs.Prelude.{None, Ok, IsPermutation, is_some}
use Rattle.std.specs.List.{list_any}
use Rattle.lp_format.specs.format.{Dialect, backslash, comma, equals, is_one_of, Line, answer, some_tags, tag_set, a_measurement, a_tag_key}
use Rattle.lp_format.specs.format.{a_tag_value, escapable, is_one_escape, name, spelled, spelled_len, Pair, Text, reads}
use Rattle.lp_lines.specs.code.Bases.{Base, borrowed, owned, duplicate_key, base_of, by_key, first_repeated, in_order, is_base_safe}
use Rattle.lp_events.specs.code.OwnBases.{keys_of, is_strictly_sorted}

-- a parsed series: the raw text reads as this measurement and these tags, and nothing is left of it
pub record IsParsedSeries (raw : List ℕ) (measurement : Text) (tags : List (Pair Text Text)) : Type 0 where
  pub after : List ℕ
  pub set : Option (List (Pair Text Text))
  pub measurement_is : name a_measurement raw ≡ reads measurement after
  pub set_is : tag_set after ≡ Ok (record { value = set; rest = [] })
  pub tags_are : some_tags set ≡ tags

-- the spellings of the names of the first `n` tags of a text, where each tag comes after a comma
abbrev pub spelled_tags : ℕ → List ℕ → List (List ℕ × List ℕ)
spelled_tags zero text = []
spelled_tags (suc n) text =
    let key = drop 1 text in
    let value = drop (spelled_len a_tag_key key + 1) key in
    (spelled a_tag_key key, spelled a_tag_value value) ∷ spelled_tags n (drop (spelled_len a_tag_value value) value)

-- whether the key or the value of a tag is spelled as one known escape and nothing else
abbrev pub is_tag_one_escape : List ℕ × List ℕ → Bool
is_tag_one_escape t = is_one_escape (escapable a_tag_key) t.0 || is_one_escape (escapable a_tag_value) t.1

-- whether a name in the raw text of a series with `n` tags is spelled as one known escape and nothing else
abbrev pub has_one_escape : List ℕ → ℕ → Bool
has_one_escape raw n = is_one_escape (escapable a_measurement) (spelled a_measurement raw)
    || list_any is_tag_one_escape (spelled_tags n (drop (spelled_len a_measurement raw) raw))

-- a clear series: it is parsed, repeats no key, and spells no name as one known escape and nothing else
pub record IsClearSeries (raw : List ℕ) (measurement : Text) (tags : List (Pair Text Text)) : Type 0 where
  pub parsed : IsParsedSeries raw measurement tags
  pub repeats_none : first_repeated (keys_of tags) ≡ length tags
  pub no_escape_alone : has_one_escape raw (length tags) ≡ false

-- whether the key of a tag holds an `=`, or its value holds a comma
abbrev pub is_tag_delimited : Pair Text Text → Bool
is_tag_delimited t = is_one_of t.key.bytes equals || is_one_of t.value.bytes comma

-- whether the measurement or a value of a tag holds a comma, or a key holds an `=`
abbrev pub is_delimited : Text → List (Pair Text Text) → Bool
is_delimited measurement tags = is_one_of measurement.bytes comma || list_any is_tag_delimited tags

-- two series have one measurement, and the same tags in some order
pub record IsSameSeries (measurement other : Text) (tags others : List (Pair Text Text)) : Type 0 where
  pub measurement_is : measurement.bytes ≡ other.bytes
  pub tags_are : IsPermutation (in_order tags) (in_order others)

-- the text of a base, or none if there is no base
abbrev pub base_bytes : Base → Option (List ℕ)
base_bytes (borrowed text) = Some text
base_bytes (owned text) = Some text
base_bytes (duplicate_key key) = None

-- A clear series has a base.
abbrev pub ClearSeriesHaveBases : Type 0
ClearSeriesHaveBases = (raw : List ℕ) (measurement : Text) (tags : List (Pair Text Text))
    → IsClearSeries raw measurement tags → is_some (base_bytes (base_of raw measurement tags)) ≡ true

-- The bases of clear series are equal if their measurements and their sets of tags are equal.
abbrev pub SameSeriesHaveOneBase : Type 0
SameSeriesHaveOneBase = (raw text : List ℕ) (measurement other : Text) (tags others : List (Pair Text Text))
    → IsClearSeries raw measurement tags → IsClearSeries text other others → IsSameSeries measurement other tags others
    → base_bytes (base_of raw measurement tags) ≡ base_bytes (base_of text other others)

-- The bases of clear series are equal only if their measurements and their sets of tags are equal, if no measurement and no value holds a
-- comma and no key holds an `=`.
abbrev pub OneBaseIsOneSeries : Type 0
OneBaseIsOneSeries = (raw text : List ℕ) (measurement other : Text) (tags others : List (Pair Text Text))
    → IsClearSeries raw measurement tags → IsClearSeries text other others
    → is_delimited measurement tags ≡ false → is_delimited other others ≡ false
    → base_bytes (base_of raw measurement tags) ≡ base_bytes (base_of text other others)
    → IsSameSeries measurement other tags others

-- Two parsed series that repeat no key, and whose bases are safe to group by, have one base exactly if they are the same series.
abbrev pub SafeBasesTellSeries : Type 0
SafeBasesTellSeries = (raw text : List ℕ) (measurement other : Text) (tags others : List (Pair Text Text))
    → IsParsedSeries raw measurement tags → IsParsedSeries text other others
    → first_repeated (keys_of tags) ≡ length tags → first_repeated (keys_of others) ≡ length others
    → is_base_safe measurement tags ≡ true → is_base_safe other others ≡ true
    → (base_bytes (base_of raw measurement tags) ≡ base_bytes (base_of text other others)) ↔ IsSameSeries measurement other tags others

-- Equal series are both safe to group by or both unsafe, however they are spelled.
abbrev pub SameSeriesAreSafeAlike : Type 0
SameSeriesAreSafeAlike = (measurement other : Text) (tags others : List (Pair Text Text)) → IsSameSeries measurement other tags others
    → is_base_safe measurement tags ≡ is_base_safe other others

-- A raw text without a backslash spells no name as one escape, its measurement and its values hold no comma, and its keys hold no `=`.
abbrev pub PlainSeriesAreClear : Type 0
PlainSeriesAreClear = (raw : List ℕ) (measurement : Text) (tags : List (Pair Text Text))
    → is_one_of raw backslash ≡ false → IsParsedSeries raw measurement tags
    → (has_one_escape raw (length tags) ≡ false) × (is_delimited measurement tags ≡ false)

-- The series of each line that is read is a parsed series, and its raw text is a front of the line.
abbrev pub ReadSeriesAreParsed : Type 0
ReadSeriesAreParsed = (dialect : Dialect) (line : List ℕ) (l : Line) → answer dialect line ≡ Ok l
    → IsParsedSeries l.series l.measurement (some_tags l.tags) × ((rest : List ℕ) × (line ≡ l.series ++ rest))

-- the keys of entries, in order
abbrev pub entry_keys : List (List ℕ × List ℕ) → List (List ℕ)
entry_keys entries = map (λ e. e.0) entries

-- If no key is repeated, the tags by their keys are the only list of the same tags whose keys rise.
abbrev pub TagsByKeyAreSorted : Type 0
TagsByKeyAreSorted = (tags : List (Pair Text Text)) (entries : List (List ℕ × List ℕ)) → first_repeated (keys_of tags) ≡ length tags
    → (entries ≡ by_key tags) ↔ ((is_strictly_sorted (entry_keys entries) ≡ true) × IsPermutation (in_order tags) entries)
