-- What is wrong with a text that is no line, as its events tell.
use Rattle.std.specs.Prelude.{◌≡◌, Option, Some, None, Result, Ok, Err, option_map}
use Rattle.influxdb_line_protocol.specs.code.Events.{Event, failed}
use Rattle.influxdb_line_protocol.specs.format.Lines.{Line}
use Rattle.influxdb_line_protocol.specs.format.Readings.{Fault}
use Rattle.lp_conditions.specs.declared.verdict.Verdict.{Verdict}
use Rattle.lp_values.specs.code.SpelledParts.{spelled_fault}

-- the fault that was told last, once this event is told
abbrev pub fault_after : Option Fault → Event → Option Fault
fault_after so_far (failed fault) = Some fault
fault_after so_far event = so_far

-- what a verdict is before and after it is told an event
abbrev pub Judges : Verdict → Event → Verdict → Type 0
Judges old event new = option_map spelled_fault new.fault ≡ fault_after (option_map spelled_fault old.fault) event

-- the fault of an answer that is no line
abbrev pub fault_in : Result Line Fault → Option Fault
fault_in (Ok line) = None
fault_in (Err fault) = Some fault
