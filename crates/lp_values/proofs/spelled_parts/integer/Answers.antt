use Rattle.std.proofs.Common.{arith}
use Rattle.lp_values.proofs.lemmas.fields.ReadingLemmas.{mark_boundary}
use Rattle.lp_values.proofs.spelled_parts.integer.Goals as goal

pub range_from-requires : goal.range_from-requires
range_from-requires c = λ some. mark_boundary c.args.text.now c.args.whole c.utf8.text (omega arith) (omega arith)
