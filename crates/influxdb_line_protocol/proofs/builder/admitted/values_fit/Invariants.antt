use Rattle.std.proofs.Common.{drop}
use Rattle.influxdb_line_protocol.specs.code.WritingAdmitted.{AreValues}
use Rattle.influxdb_line_protocol.proofs.builder.admitted.values_fit.Given as goal

-- if what is left are values of their types, all are
abbrev pub invariant-loop-value : goal.invariant-loop-value
invariant-loop-value l = AreValues (drop l.value-index l.fields) → AreValues l.fields
