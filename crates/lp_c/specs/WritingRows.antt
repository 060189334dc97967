-- What callers get written of rows by offsets.
use Rattle.std.specs.Prelude.{◌≡◌, ◌+◌, ◌<◌, ◌≤◌, ℕ, List, [], ◌∷◌, ◌++◌, length, map, take, drop, true, false, Ok}
use Rattle.std.specs.List.{AllByRecursion, list_all}
use Rattle.influxdb_line_protocol.specs.format.Dialects.{Dialect}
use Rattle.influxdb_line_protocol.specs.format.Points.{Point, built, built_all, is_admitted_in}
use Rattle.influxdb_line_protocol.specs.laws.AdmittedLines.{AreClosedLines}
use Rattle.lp_c.specs.HandedRows.{IsRowIn, point_there}
use Rattle.lp_offsets.specs.Numbers.{answer_number}
use Rattle.lp_offsets.specs.declared.offsets.OffsetRow.{OffsetRow}
use Rattle.lp_offsets.specs.declared.placed.OffsetPart.{OffsetPart}
use Rattle.lp_offsets.specs.declared.enums.Answer.{Answer}
use Rattle.lp_offsets.specs.declared.enums.Answer.TheVariants as answer
use Rattle.lp_c.specs.declared.writing_rows.RowsWritten.{RowsWritten}
use Rattle.lp_c.specs.declared.writing_rows.Stop.{Stop}

-- a row holds a line that is admitted in the dialect
abbrev pub IsWrittenIn : Dialect → List ℕ → List ℕ → List OffsetPart → OffsetRow → Type 0
IsWrittenIn dialect text room parts row =
    IsRowIn text room parts row × (is_admitted_in dialect (point_there text room parts row) ≡ true)

-- each of the rows holds a line that is admitted in the dialect, and these are their lines, as the builder writes them
abbrev pub AreLinesOf : Dialect → List ℕ → List ℕ → List OffsetPart → List OffsetRow → List ℕ → Type 0
AreLinesOf dialect text room parts rows lines =
    AllByRecursion (IsWrittenIn dialect text room parts) rows × (lines ≡ built_all (map (point_there text room parts) rows))

-- a text is read as these points and no others, in each dialect in which all are admitted and whatever text comes after it
abbrev pub ReadsAsAll : List Point → List ℕ → Type 0
ReadsAsAll points text =
    (dialect : Dialect) → list_all (is_admitted_in dialect) points ≡ true → AreClosedLines dialect text (map Ok points)

-- why a row is not written, after so many bytes of the most that there may be, and how many bytes it takes if it has no room
abbrev pub StopsFor : Dialect → List ℕ → List ℕ → List OffsetPart → ℕ → ℕ → Answer → ℕ → OffsetRow → Type 0
StopsFor dialect text room parts most used answer.NotALine need row = (¬ IsRowIn text room parts row) × (need ≡ 0)
StopsFor dialect text room parts most used answer.NotAdmitted need row =
    IsRowIn text room parts row × (is_admitted_in dialect (point_there text room parts row) ≡ false) × (need ≡ 0)
StopsFor dialect text room parts most used answer.MoreRoom need row =
    IsWrittenIn dialect text room parts row × (need ≡ length (built (point_there text room parts row))) × (most < used + need)
StopsFor dialect text room parts most used answer.OutOfMemory need row = need ≡ 0
StopsFor dialect text room parts most used other need row = ⊥

-- the same of a stop
abbrev pub StopsAtRow : Dialect → List ℕ → List ℕ → List OffsetPart → ℕ → ℕ → Stop → OffsetRow → Type 0
StopsAtRow dialect text room parts most used stop row = StopsFor dialect text room parts most used stop.answer stop.need row

-- why no more rows are written: none is left, or the next one is not written
abbrev pub StopsAt : Dialect → List ℕ → List ℕ → List OffsetPart → ℕ → ℕ → Stop → List OffsetRow → Type 0
StopsAt dialect text room parts most used stop [] = (stop.answer ≡ answer.Written) × (stop.need ≡ 0)
StopsAt dialect text room parts most used stop (row ∷ rest) = StopsAtRow dialect text room parts most used stop row

-- The lines of rows from one of them on are put out, one after another, up to the first row that is not written: what comes after them
-- in the buffer is as before. The number of the answer says why no more were.
pub record WritesRows (dialect : Dialect) (text room : List ℕ) (parts : List OffsetPart) (rows : List OffsetRow) (from : ℕ)
    (before after : List ℕ) (written : RowsWritten) (number : ℕ) : Type 0 where
  pub count : ℕ
  pub lines : List ℕ
  pub stop : Stop
  pub are : AreLinesOf dialect text room parts (take count (drop from rows)) lines
  pub reads_back : ReadsAsAll (map (point_there text room parts) (take count (drop from rows))) lines
  pub put : after ≡ lines ++ drop (length lines) before
  pub fits : length lines ≤ length before
  pub stops : StopsAt dialect text room parts (length before) (length lines) stop (drop count (drop from rows))
  pub row : written.row ≡ from + count
  pub within : written.row ≤ length rows
  pub len : written.len ≡ length lines
  pub need : written.need ≡ stop.need
  pub numbered : number ≡ answer_number stop.answer
