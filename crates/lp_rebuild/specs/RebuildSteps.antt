-- The steps of a rebuild: each adds to the batch, to the faults and to the counts.
use Rattle.std.specs.Prelude.{◌≡◌, ℕ, ◌+◌, ◌++◌, string_bytes, true, false, List, [], codes, Option, Some, None, Result, Ok, Err, if◌then◌else◌}
use Rattle.lp_rebuild.specs.declared.batch.Progress.{Progress}
use Rattle.lp_rebuild.specs.declared.refusals.LineRefusal.{LineRefusal}
use Rattle.lp_rebuild.specs.declared.refusals.LineRefusal.TheVariants as refusal
use Rattle.influxdb_line_protocol.specs.code.Faults.{fault_text}
use Rattle.influxdb_line_protocol.specs.format.Points.{built_all, is_admitted_point}
use Rattle.influxdb_line_protocol.specs.format.Readings.{Fault}
use Rattle.influxdb_line_protocol.specs.format.Lines.{Line, point_of}
use Rattle.influxdb_line_protocol.specs.format.Trimming.{trimmed}
use Rattle.lp_rebuild.specs.Rebuilding.{carried_point, fault_line, is_carried_answer, refusal_text}
use Rattle.influxdb_line_protocol.specs.code.Parsed.{line_read}
use Rattle.influxdb_line_protocol.specs.types.ParsedLine.{ParsedLine}
use Rattle.lp_values.specs.code.SpelledParts.{spelled_fault}
use Rattle.lp_values.specs.declared.spelled.SpelledFault.{SpelledFault}

-- The text of the reason why a line is refused.
abbrev pub line_refusal_text : LineRefusal → List ℕ
line_refusal_text (refusal.Fault fault) = fault_text (spelled_fault fault)
line_refusal_text refusal.NotAdmitted = codes "a name cannot be written again"

-- Without a fault, the answer is the line that was read. With a fault, the answer is this fault.
abbrev pub IsReadAs : Option SpelledFault → ParsedLine → Result Line Fault → Type 0
IsReadAs None line answer = answer ≡ Ok (line_read line)
IsReadAs (Some fault) line answer = answer ≡ Err (spelled_fault fault)

-- Without a refusal, the answer is carried. With a refusal, the answer is the fault of the refusal, or a line that has a name which is not
-- admitted.
abbrev pub IsRefusedFor : Option LineRefusal → Result Line Fault → Type 0
IsRefusedFor None answer = is_carried_answer answer ≡ true
IsRefusedFor (Some (refusal.Fault fault)) answer = answer ≡ Err (spelled_fault fault)
IsRefusedFor (Some refusal.NotAdmitted) answer = (line : Line) × (answer ≡ Ok line) × (is_admitted_point (point_of line) ≡ false)

-- The batch gained the line of the answer, if the answer is carried. Otherwise the batch stayed as it was, and the refusal has the reason.
pub record TakesLine (before : List ℕ) (refusal : Option LineRefusal) (answer : Result Line Fault) (after : List ℕ) : Type 0 where
  pub batch : after ≡ before ++ built_all (carried_point answer)
  pub refused : IsRefusedFor refusal answer

-- One item was refused with this text: the faults gained its fault line, one more item is refused, and the batch stayed as it was.
pub record Refuses (old : Progress) (text : List ℕ) (new : Progress) : Type 0 where
  pub batch : new.batch.items ≡ old.batch.items
  pub faults : string_bytes new.faults ≡ string_bytes old.faults ++ fault_line (old.carried + old.refused + 1) text
  pub carried : new.carried ≡ old.carried
  pub refused : new.refused ≡ old.refused + 1

-- One answer was taken: the batch gained its line, or the faults gained its fault line, and it was counted.
pub record Takes (old : Progress) (answer : Result Line Fault) (new : Progress) : Type 0 where
  pub batch : new.batch.items ≡ old.batch.items ++ built_all (carried_point answer)
  pub faults : string_bytes new.faults ≡ string_bytes old.faults
      ++ (if is_carried_answer answer then [] else fault_line (old.carried + old.refused + 1) (refusal_text answer))
  pub carried : new.carried ≡ (if is_carried_answer answer then old.carried + 1 else old.carried)
  pub refused : new.refused ≡ (if is_carried_answer answer then old.refused else old.refused + 1)

-- The text is some text that was trimmed.
abbrev pub IsTrimmed : List ℕ → Type 0
IsTrimmed text = (piece : List ℕ) × (text ≡ trimmed piece)
