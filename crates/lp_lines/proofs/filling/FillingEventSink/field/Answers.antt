use Rattle.std.proofs.Common.{arith}
use Rattle.lp_lines.proofs.filling.FillingEventSink.field.Goals as goal

pub returns-then-not-put_field : goal.returns-then-not-put_field
returns-then-not-put_field c = let refused = c.put_field.ensures.needs c.if-not-put_field.true in grind arith
