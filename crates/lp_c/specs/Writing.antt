-- What callers in C get written.
use Rattle.std.specs.Prelude.{◌≡◌, ◌≢◌, ◌↔◌, ℕ, ◌<◌, ◌≤◌, List, [], ◌∷◌, ◌++◌, length, drop, map, true, false, Ok}
use Rattle.influxdb_line_protocol.specs.format.Dialects.{Dialect}
use Rattle.influxdb_line_protocol.specs.format.Lines.{logical_tag, point_of, some_tags}
use Rattle.influxdb_line_protocol.specs.format.Points.{Point, built, is_admitted_in}
use Rattle.influxdb_line_protocol.specs.code.Bases.{Base, borrowed, owned, duplicate_key, base_of}
use Rattle.influxdb_line_protocol.specs.code.Shown.{shown_line}
use Rattle.influxdb_line_protocol.specs.laws.AdmittedLines.{AreClosedLines}
use Rattle.lp_lines.specs.code.Keys.{series_key}
use Rattle.lp_offsets.specs.declared.enums.Answer.{Answer}
use Rattle.lp_offsets.specs.declared.enums.Answer.TheVariants.{Fault, MoreRoom, NotADialect, NotALine, NotAdmitted, OutOfMemory, Written}
use Rattle.lp_c.specs.declared.views.Line.{Line}
use Rattle.lp_c.specs.declared.views.Part.{Part}
use Rattle.lp_c.specs.Handed.{IsLineIn, line_in, tag_set_in, text_in}
use Rattle.lp_offsets.specs.Numbers.{IsNoDialect, answer_number, dialect_of}

-- a text is put out: its length is told; it lies at the start of the buffer, and what is after it is as before; or the
-- buffer is too short for it, and is as before
pub record PutsOut (done : Answer) (text before after : List ℕ) (len answer : ℕ) : Type 0 where
  pub told : len ≡ length text
  pub bytes : length text ≤ length before → after ≡ text ++ drop (length text) before
  pub answered : length text ≤ length before → answer ≡ answer_number done
  pub kept : length before < length text → after ≡ before
  pub short : length before < length text → answer ≡ answer_number MoreRoom

-- what was handed in is refused, as it is not what it must be, or as a request for memory was refused: the buffer and the
-- length are as before; else a text is put out
pub record Writes (Is : Type 0) (done : Answer) (text before after : List ℕ) (len_before len answer : ℕ) : Type 0 where
  pub not_a_line : answer ≡ answer_number NotALine → (¬ Is) × (after ≡ before) × (len ≡ len_before)
  pub out_of_memory : answer ≡ answer_number OutOfMemory → (after ≡ before) × (len ≡ len_before)
  pub puts : answer ≢ answer_number NotALine → answer ≢ answer_number OutOfMemory → Is × PutsOut done text before after len answer

-- the point of the line that views hold
abbrev pub point_in : Line → List Part → Point
point_in l parts = point_of (line_in false l parts)

-- what the builder writes for the line that views hold
abbrev pub built_in : Line → List Part → List ℕ
built_in l parts = built (point_in l parts)

-- A line that is admitted in the dialect is put out, as the builder writes it. Any other is refused, as is a number of no dialect and
-- what is no line: then, and if memory is refused, the buffer and the length are as before.
pub record WritesAdmittedLine (dialect : ℕ) (l : Line) (parts : List Part) (before after : List ℕ) (len_before len answer : ℕ) : Type 0 where
  pub not_a_dialect : (answer ≡ answer_number NotADialect) ↔ IsNoDialect dialect
  pub not_a_line : answer ≡ answer_number NotALine → ¬ IsLineIn l parts
  pub not_admitted : answer ≡ answer_number NotAdmitted → IsLineIn l parts × (is_admitted_in (dialect_of dialect) (point_in l parts) ≡ false)
  pub kept : answer ≢ answer_number Written → answer ≢ answer_number MoreRoom → (after ≡ before) × (len ≡ len_before)
  pub puts : answer ≢ answer_number NotADialect → answer ≢ answer_number NotALine → answer ≢ answer_number NotAdmitted
      → answer ≢ answer_number OutOfMemory → IsLineIn l parts × (is_admitted_in (dialect_of dialect) (point_in l parts) ≡ true)
      × PutsOut Written (built_in l parts) before after len answer

-- a text is read as this point and no other, in each dialect in which the point is admitted and whatever text comes after it
abbrev pub ReadsAs : Point → List ℕ → Type 0
ReadsAs point text = (dialect : Dialect) → is_admitted_in dialect point ≡ true → AreClosedLines dialect text (Ok point ∷ [])

-- what is shown of the line that views hold
abbrev pub shown_in : Line → List Part → List ℕ
shown_in l parts = shown_line (line_in false l parts)

-- the base of the series that views hold
abbrev pub base_in : Line → List Part → Base
base_in l parts = base_of l.series.now (text_in true l.measurement) (some_tags (tag_set_in true l parts))

-- the key of the series that views hold
abbrev pub key_in : Line → List Part → List ℕ
key_in l parts = series_key (text_in false l.measurement).bytes (map logical_tag (some_tags (tag_set_in false l parts)))

-- the text of a base, or the key that is repeated
abbrev pub text_of_base : Base → List ℕ
text_of_base (borrowed text) = text
text_of_base (owned text) = text
text_of_base (duplicate_key key) = key

-- the answer for a base: a repeated key is a fault
abbrev pub answer_for_base : Base → Answer
answer_for_base (borrowed text) = Written
answer_for_base (owned text) = Written
answer_for_base (duplicate_key key) = Fault
