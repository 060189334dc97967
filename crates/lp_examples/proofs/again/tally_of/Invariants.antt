use Rattle.influxdb_line_protocol.specs.code.ParseSteps.{most_items}
use Rattle.lp_examples.proofs.again.tally_of.Given as goal

-- each answer leaves fewer items
abbrev pub decreases-loop-answer : goal.decreases-loop-answer
decreases-loop-answer l = most_items l.lines.text
