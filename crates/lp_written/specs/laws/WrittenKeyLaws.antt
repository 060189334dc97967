-- The laws about a key that stands in a text, and the series of this text.
use Rattle.std.specs.Prelude.{◌≡◌, ◌<◌, ℕ, List, ◌∷◌, ◌++◌, length, map}
use Rattle.lp_format.specs.format.{Pair, Point, Text, line_of, logical_tag, space}
use Rattle.lp_lines.specs.{code.Keys.series_key, code.Keys.sorted_by, laws.BaseLaws.IsParsedSeries}
use Rattle.lp_written.specs.code.WrittenKeys.{IsAdmittedKey}

-- If a text is the key of a series whose names are all admitted, the series that is read from the text has this key.
abbrev pub KeysStandInTexts : Type 0
KeysStandInTexts = (text : List ℕ) (measurement : Text) (tags : List (Pair Text Text)) → IsAdmittedKey text
    → IsParsedSeries text measurement tags → series_key measurement.bytes (map logical_tag tags) ≡ text

-- If the tags of a point are in the order of their keys, the line of the point begins with the key of its series, and a space follows.
abbrev pub LinesBeginWithKeys : Type 0
LinesBeginWithKeys = (p : Point) → sorted_by (λ t. t.key) p.tags ≡ p.tags → 0 < length p.fields
    → (fields : List ℕ) × (line_of p ≡ series_key p.measurement p.tags ++ space ∷ fields)
