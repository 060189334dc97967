-- Keys of series that stand in a text, as rows by offsets tell them.
use Rattle.std.specs.Prelude.{◌≡◌, ◌⊎◌, ◌<◌, ◌≤◌, ◌-◌, ◌++◌, ℕ, List, length, map, take, drop, Option, Some, None, Ok, IsUtf8}
use Rattle.std.specs.Borrow.{Bor}
use Rattle.influxdb_line_protocol.specs.format.Dialects.{Dialect}
use Rattle.influxdb_line_protocol.specs.format.Lines as format
use Rattle.influxdb_line_protocol.specs.format.Lines.{logical_tag, some_tags}
use Rattle.lp_lines.specs.code.Keys.{series_key}
use Rattle.lp_written.specs.code.WrittenKeys.{EndsSeries, IsAdmittedKey}
use Rattle.lp_offsets.specs.Numbers.{answer_number}
use Rattle.lp_offsets.specs.declared.offsets.OffsetRow.{OffsetRow}
use Rattle.lp_offsets.specs.declared.enums.Answer.TheVariants as Answer

-- the bytes from where the line of a row begins to where it ends
abbrev pub line_there : List ℕ → OffsetRow → List ℕ
line_there text row = take (row.stop_at - row.line_at) (drop row.line_at text)

-- a row has a line, and the text does at its place
pub record HasLine (text : List ℕ) (row : OffsetRow) : Type 0 where
  pub answered : row.answer ≡ answer_number Answer.Line
  pub begins : row.line_at ≤ row.stop_at
  pub fits : row.stop_at ≤ length text
  pub utf8 : IsUtf8 (line_there text row)

-- the line of a row, if it has one
abbrev pub IsLineOf : List ℕ → OffsetRow → Option (Bor (List ℕ)) → Type 0
IsLineOf text row None = ¬ HasLine text row
IsLineOf text row (Some line) = HasLine text row × (line.now ≡ line_there text row)

-- the line of a row begins with the key of a series whose names are all admitted, and there the series ends
pub record BeginsWith (text : List ℕ) (row : OffsetRow) (key : List ℕ) : Type 0 where
  pub line : HasLine text row
  pub rest : List ℕ
  pub is : key ++ rest ≡ line_there text row
  pub ends : EndsSeries rest
  pub admitted : IsAdmittedKey key

-- so many bytes of the line of a row are such a key; or it begins with none, and the number is 0
abbrev pub IsKeyLen : List ℕ → OffsetRow → ℕ → Type 0
IsKeyLen text row n =
    ((key : List ℕ) × BeginsWith text row key × (n ≡ length key))
    ⊎ (((key : List ℕ) → ¬ BeginsWith text row key) × (n ≡ 0))

-- a row tells so of its line, and is as it was else
pub record TellsKey (text : List ℕ) (before after : OffsetRow) : Type 0 where
  pub len : IsKeyLen text before after.key
  pub others : after ≡ record before { key = after.key }

-- what a row tells for a key is the key of the series of its line, by whatever rules the line is read
abbrev pub TellsSeries : List ℕ → OffsetRow → Type 0
TellsSeries text row = (dialect : Dialect) (read : format.Line) → format.answer dialect (line_there text row) ≡ Ok read → 0 < row.key
    → take row.key (line_there text row) ≡ series_key read.measurement.bytes (map logical_tag (some_tags read.tags))
