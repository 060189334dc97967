-- The meaning of the answer for a trimmed text: the table of answers, row by row.
use Rattle.std.specs.Prelude.{◌≡◌, ◌↔◌, ℕ, List, [], ◌∷◌, ◌++◌, drop, Option, Some, None, Result, Ok, Err}
use Rattle.lp_format.specs.format.{Dialect, comma, space, Side, Fault, measurement_value_invalid, field_set_missing, ends_with_backslash}
use Rattle.lp_format.specs.format.{tag_set_malformed, take_while1, timestamp_value_invalid, cannot_parse_entire_line, Text, miss, fatal}
use Rattle.lp_format.specs.format.{reads, a_measurement, name, Value, Pair, Line, tag, field, without_comma, spaces, timestamp, answer}
use Rattle.lp_format.specs.laws.Meanings.{LongestList, WholeList, NextHasFault}

-- the text begins with this byte
abbrev pub BeginsWith : ℕ → List ℕ → Type 0
BeginsWith b [] = ⊥
BeginsWith b (c ∷ rest) = c ≡ b

-- the text after all spaces at its start
abbrev pub after_spaces : List ℕ → List ℕ
after_spaces text = drop (spaces text) text

-- a measurement and its tags are read at the start of a text, and the last argument is the rest; if no comma follows the measurement, there is
-- no tag set
pub data ReadsSeries (text : List ℕ) : Text → Option (List (Pair Text Text)) → List ℕ → Type 0 where
  -- no comma follows the measurement
  alone : (m : Text) (rest : List ℕ) → name a_measurement text ≡ reads m rest → ¬ BeginsWith comma rest → ReadsSeries text m None rest
  -- a comma follows the measurement, and then at least one tag
  tagged : (m : Text) (tags : List (Pair Text Text)) (after rest : List ℕ)
      → name a_measurement text ≡ reads m (comma ∷ after) → WholeList tag after tags rest → ReadsSeries text m (Some tags) rest

-- the series of a line is read, a space follows it, after all spaces the fields of the line are read, and `rest` follows them
pub record ReadsFields (dialect : Dialect) (text : List ℕ) (line : Line) (rest : List ℕ) : Type 0 where
  pub after_series : List ℕ
  pub series_is : text ≡ line.series ++ after_series
  pub series_reads : ReadsSeries text line.measurement line.tags after_series
  pub gap : BeginsWith space after_series
  pub after_fields : List ℕ
  pub fields_read : WholeList field (after_spaces after_series) line.fields after_fields
  pub rest_is : rest ≡ without_comma dialect line.fields after_fields

-- the answer for a text, by the rows of the table; each row also says that no row before it holds
pub data IsAnswer (dialect : Dialect) (text : List ℕ) : Result Line Fault → Type 0 where
  -- the measurement is fatal
  fatal_measurement : (e : Fault) → name a_measurement text ≡ fatal e → IsAnswer dialect text (Err ends_with_backslash)
  -- the measurement misses
  no_measurement : name a_measurement text ≡ miss → IsAnswer dialect text (Err measurement_value_invalid)
  -- a comma follows the measurement, and a tag is fatal
  fatal_tag : (m : Text) (after : List ℕ) (tags : List (Pair Text Text)) (rest : List ℕ) (e : Fault)
      → name a_measurement text ≡ reads m (comma ∷ after) → LongestList tag after tags rest → NextHasFault tag tags rest e
      → IsAnswer dialect text (Err ends_with_backslash)
  -- a comma follows the measurement, and the first tag misses
  no_tag : (m : Text) (after : List ℕ) → name a_measurement text ≡ reads m (comma ∷ after) → tag after ≡ miss
      → IsAnswer dialect text (Err tag_set_malformed)
  -- no space follows the measurement and the tags
  no_space : (m : Text) (tags : Option (List (Pair Text Text))) (rest : List ℕ) → ReadsSeries text m tags rest → ¬ BeginsWith space rest
      → IsAnswer dialect text (Err take_while1)
  -- after all spaces, a field is fatal
  fatal_field : (m : Text) (tags : Option (List (Pair Text Text))) (after : List ℕ) (fields : List (Pair Text (Value Text)))
      (rest : List ℕ) (e : Fault)
      → ReadsSeries text m tags after → BeginsWith space after → LongestList field (after_spaces after) fields rest
      → NextHasFault field fields rest e → IsAnswer dialect text (Err e)
  -- after all spaces, the first field misses
  no_field : (m : Text) (tags : Option (List (Pair Text Text))) (after : List ℕ) → ReadsSeries text m tags after → BeginsWith space after
      → field (after_spaces after) ≡ miss → IsAnswer dialect text (Err field_set_missing)
  -- the timestamp after the fields is out of range
  fatal_timestamp : (line : Line) (rest : List ℕ) (side : Side) (number : List ℕ) → ReadsFields dialect text line rest
      → timestamp rest ≡ Err (timestamp_value_invalid side number) → IsAnswer dialect text (Err (timestamp_value_invalid side number))
  -- text is left after the timestamp
  left : (line : Line) (rest : List ℕ) (b : ℕ) (more : List ℕ)
      → ReadsFields dialect text line rest → timestamp rest ≡ Ok (record { value = line.timestamp; rest = b ∷ more })
      → IsAnswer dialect text (Err (cannot_parse_entire_line (b ∷ more)))
  -- nothing is left after the timestamp
  all_read : (line : Line) (rest : List ℕ)
      → ReadsFields dialect text line rest → timestamp rest ≡ Ok (record { value = line.timestamp; rest = [] })
      → IsAnswer dialect text (Ok line)

-- The answer for a text is exactly the answer that the rows of the table give it.
abbrev pub AnswerIsByRows : Type 0
AnswerIsByRows = (dialect : Dialect) (text : List ℕ) (a : Result Line Fault) → (answer dialect text ≡ a) ↔ IsAnswer dialect text a
