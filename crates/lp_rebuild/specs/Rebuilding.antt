-- The result of rebuilding a text: a batch of the carried lines, written again, and a fault line for every other item.
use Rattle.std.specs.Prelude.{◌≡◌, ◌⊎◌, ℕ, ◌+◌, Bool, true, false, not, List, [], ◌∷◌, ◌++◌, codes, map, Result, Ok, Err, decimal, if◌then◌else◌}
use Rattle.std.specs.List.{flat_map, count_by, list_all}
use Rattle.influxdb_line_protocol.specs.format.Dialects.{Dialect, Crate, NewlineDelimited}
use Rattle.influxdb_line_protocol.specs.format.Bytes.{newline}
use Rattle.influxdb_line_protocol.specs.format.Readings.{Fault}
use Rattle.influxdb_line_protocol.specs.format.Points.{Point, is_admitted_in, is_admitted_point, built_all}
use Rattle.influxdb_line_protocol.specs.format.Lines.{Line, point_of}
use Rattle.influxdb_line_protocol.specs.format.Items.{HasAnswers}
use Rattle.influxdb_line_protocol.specs.code.Faults.{fault_text}
use Rattle.lp_rebuild.specs.declared.batch.Rebuilt.{Rebuilt}

-- Whether an answer is carried: whether it is a line whose names are all admitted.
abbrev pub is_carried_answer : Result Line Fault → Bool
is_carried_answer (Ok line) = is_admitted_point (point_of line)
is_carried_answer (Err fault) = false

-- The point of an answer that is carried, in a list of one; an empty list if the answer is not carried.
abbrev pub carried_point : Result Line Fault → List Point
carried_point (Ok line) = if is_admitted_point (point_of line) then point_of line ∷ [] else []
carried_point (Err fault) = []

-- The batch: the lines of the carried answers, written again.
abbrev pub batch_of : List (Result Line Fault) → List ℕ
batch_of answers = built_all (flat_map carried_point answers)

-- The text of the reason why an answer is not carried.
abbrev pub refusal_text : Result Line Fault → List ℕ
refusal_text (Ok line) = codes "a name cannot be written again"
refusal_text (Err fault) = fault_text fault

-- The fault line of an item: `item `, its number, `: `, the reason and a newline.
abbrev pub fault_line : ℕ → List ℕ → List ℕ
fault_line number text = codes "item " ++ decimal number ++ codes ": " ++ text ++ newline ∷ []

-- The fault line of an answer that is not carried, and nothing for an answer that is carried.
abbrev pub fault_of : ℕ → Result Line Fault → List ℕ
fault_of number answer = if is_carried_answer answer then [] else fault_line number (refusal_text answer)

-- The fault lines of the answers that are not carried, where the first answer has this number.
abbrev pub faults_from : ℕ → List (Result Line Fault) → List ℕ
faults_from number [] = []
faults_from number (answer ∷ answers) = fault_of number answer ++ faults_from (number + 1) answers

-- The number of answers that are carried.
abbrev pub carried_of : List (Result Line Fault) → ℕ
carried_of answers = count_by is_carried_answer answers

-- The number of answers that are not carried.
abbrev pub refused_of : List (Result Line Fault) → ℕ
refused_of answers = count_by (λ answer. not (is_carried_answer answer)) answers

-- A text is rebuilt by the rules of a dialect: each of its answers, in order and numbered from 1, is written again or refused.
pub record RebuildsIn (dialect : Dialect) (text : List ℕ) (r : Rebuilt) : Type 0 where
  pub answers : List (Result Line Fault)
  pub has : HasAnswers dialect text answers
  pub batch : r.batch.items ≡ batch_of answers
  pub faults : r.faults.items ≡ faults_from 1 answers
  pub carried : r.carried ≡ carried_of answers
  pub refused : r.refused ≡ refused_of answers

-- A text is rebuilt by the rules of the Rust crate.
abbrev pub Rebuilds : List ℕ → Rebuilt → Type 0
Rebuilds text r = RebuildsIn Crate text r

-- Lines of these points, which were read in one dialect, can be read in another dialect. If the other dialect is the newline-delimited
-- dialect, no string may hold a newline; no string that was read in that dialect holds one.
abbrev pub CanBeReadIn : (from to : Dialect) → List Point → Type 0
CanBeReadIn from NewlineDelimited points = (from ≡ NewlineDelimited) ⊎ (list_all (is_admitted_in NewlineDelimited) points ≡ true)
CanBeReadIn from other points = Unit {0}

-- The batch of a text that was read in one dialect reads back in each dialect in which its lines can be read, whatever text follows the
-- batch. The answers are first lines with the points that were carried, from which the batch is built, and then the answers for the
-- following text alone.
abbrev pub ReadsBackIn : Dialect → List ℕ → Rebuilt → Type 0
ReadsBackIn from text r =
    (items : List (Result Line Fault)) → HasAnswers from text items
    → (dialect : Dialect) → CanBeReadIn from dialect (flat_map carried_point items)
    → (t : List ℕ) (answers : List (Result Line Fault)) → HasAnswers dialect t answers
    → (lines : List Line) × (map point_of lines ≡ flat_map carried_point items) × (built_all (map point_of lines) ≡ r.batch.items)
    × HasAnswers dialect (r.batch.items ++ t) (map Ok lines ++ answers)

-- The batch of a text that was read by the rules of the Rust crate reads back.
abbrev pub ReadsBack : List ℕ → Rebuilt → Type 0
ReadsBack text r = ReadsBackIn Crate text r
