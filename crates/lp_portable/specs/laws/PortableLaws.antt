-- The laws about readers of portable lines, and about the spelling of the names of a line.
use Rattle.std.specs.Prelude.{◌≡◌, ◌↔◌, ℕ, true, false, List, [], ◌∷◌, map, Ok}
use Rattle.std.specs.List.{AllByRecursion, list_any}
use Rattle.lp_format.specs.format.{Dialect, Strict, HasAnswers, HasNoNewline, Line, Pair, answer, backslash, bare, equals, quote, some_tags}
use Rattle.lp_format.specs.format.{NameKind, a_field_key, a_measurement, a_tag_key, a_tag_value, is_escapable, is_one_of, logical, logical_tag}
use Rattle.lp_format.specs.format.{without_escapes}
use Rattle.lp_format.specs.laws.NamesOfLines.{IsOneLineIn}
use Rattle.lp_portable.specs.format.Portable.{IsOneLine, IsPortable, Limits, all, influx1, victoria}
use Rattle.lp_portable.specs.format.Spellings.{IsSpelled, Spelling, holds, without_each}

-- A line that is one line of the strict rules is the only answer for its text in the dialects `Crate` and `Strict`, and in
-- `NewlineDelimited` if the text holds no newline.
abbrev pub LinesAreAnsweredAlike : Type 0
LinesAreAnsweredAlike =
    (dialect : Dialect) (text : List ℕ) (line : Line) → IsOneLine text line → IsOneLineIn dialect text → HasAnswers dialect text (Ok line ∷ [])

-- The text holds no newline, and this line is the only answer for it in each dialect.
pub record IsReadAlike (text : List ℕ) (line : Line) : Type 0 where
  pub one_line : HasNoNewline text
  pub answered : (dialect : Dialect) → HasAnswers dialect text (Ok line ∷ [])

-- A line that is portable to VictoriaMetrics holds no newline, and is the only answer for its text in each dialect.
abbrev pub VictoriaLinesAreReadAlike : Type 0
VictoriaLinesAreReadAlike = (limits : Limits) (text : List ℕ) (portable : IsPortable victoria limits text) → IsReadAlike text portable.line

-- The spelling of a name means the same to each reader for which a backslash escapes the same bytes as here, except for these bytes, of
-- which it may escape any. The meaning is the same whether or not the reader takes each backslash by itself.
abbrev pub MeansTheSame : List ℕ → NameKind → List ℕ → Type 0
MeansTheSame marks kind spelling =
    (known : List ℕ) → ((b : ℕ) → is_one_of marks b ≡ false → is_one_of known b ≡ is_escapable kind b)
    → (without_escapes known spelling ≡ logical kind spelling) × (without_each known spelling ≡ logical kind spelling)

-- Both names of a tag mean the same to readers that may or may not escape a backslash.
abbrev pub TagMeansTheSame : Pair (List ℕ) (List ℕ) → Type 0
TagMeansTheSame t = MeansTheSame (backslash ∷ []) a_tag_key t.key × MeansTheSame (backslash ∷ []) a_tag_value t.value

-- All names of a line mean the same to readers that may or may not escape a backslash; in a measurement and a field key, also a quote; and
-- in a measurement, also an equals sign.
pub record NamesMeanTheSame (names : Spelling) : Type 0 where
  pub measurement : MeansTheSame (backslash ∷ quote ∷ equals ∷ []) a_measurement names.measurement
  pub tags : AllByRecursion TagMeansTheSame names.tags
  pub keys : AllByRecursion (MeansTheSame (backslash ∷ quote ∷ []) a_field_key) names.keys

-- The names of a line that is portable to InfluxDB 1.x mean the same to readers with other escapes.
abbrev pub InfluxNamesMeanTheSame : Type 0
InfluxNamesMeanTheSame = (limits : Limits) (text : List ℕ) (portable : IsPortable influx1 limits text) → NamesMeanTheSame portable.names

-- A line that is portable to all servers is the only answer for its text in each dialect, and its names mean the same to readers with other
-- escapes.
abbrev pub PortableLinesAreReadAlike : Type 0
PortableLinesAreReadAlike =
    (limits : Limits) (text : List ℕ) (portable : IsPortable all limits text)
    → IsReadAlike text portable.line × NamesMeanTheSame portable.names

-- Each line that the strict rules read has a spelling of its names.
abbrev pub LinesAreSpelled : Type 0
LinesAreSpelled = (text : List ℕ) (line : Line) → answer Strict text ≡ Ok line → (names : Spelling) × IsSpelled text line names

-- A line has at most one spelling of its names.
abbrev pub SpellingsAreUnique : Type 0
SpellingsAreUnique =
    (text : List ℕ) (line : Line) (names others : Spelling) → IsSpelled text line names → IsSpelled text line others → names ≡ others

-- Both names of a tag, by their logical texts.
abbrev pub logical_names : Pair (List ℕ) (List ℕ) → Pair (List ℕ) (List ℕ)
logical_names t = record { key = logical a_tag_key t.key; value = logical a_tag_value t.value }

-- The logical texts of these spelled names are the names that were read of a line, in order.
pub record SpellsNamesOf (line : Line) (names : Spelling) : Type 0 where
  pub measurement : logical a_measurement names.measurement ≡ line.measurement.bytes
  pub tags : map logical_names names.tags ≡ map logical_tag (some_tags line.tags)
  pub keys : map (logical a_field_key) names.keys ≡ map (λ f. f.key.bytes) line.fields

-- The names that were read of a line are the logical texts of its spelling.
abbrev pub SpellingsAreRead : Type 0
SpellingsAreRead =
    (text : List ℕ) (line : Line) (names : Spelling) → answer Strict text ≡ Ok line → IsSpelled text line names → SpellsNamesOf line names

-- Take readers that may or may not escape some bytes, among them the backslash. A name means the same to all these readers exactly if it
-- holds none of these bytes escaped.
abbrev pub EscapedBytesAreHeld : Type 0
EscapedBytesAreHeld =
    (marks : List ℕ) (kind : NameKind) (name : List ℕ)
    → is_one_of marks backslash ≡ true → MeansTheSame marks kind name ↔ (holds marks [] name ≡ false)

-- A spelled name holds one of some bytes bare exactly if one of its bare bytes is among them. The backslash must not be among these bytes.
abbrev pub BareBytesAreHeld : Type 0
BareBytesAreHeld =
    (marks name : List ℕ) → is_one_of marks backslash ≡ false → holds [] marks name ≡ list_any (is_one_of marks) (bare name)
