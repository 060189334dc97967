use Rattle.std.proofs.Common.{arith}
use Rattle.lp_written.proofs.lemmas.parts.WrittenKeys.{empty_name, no_backslash_alone}
use Rattle.lp_written.proofs.keys.split_byte.Goals as goal

pub returns-in_default-clause-value : goal.returns-in_default-clause-value
returns-in_default-clause-value c known name closed written = grind (arith, empty_name)

pub returns-in_default-split_first-clause-value : goal.returns-in_default-split_first-clause-value
returns-in_default-split_first-clause-value c known name closed written = grind (arith, no_backslash_alone)
