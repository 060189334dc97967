use Rattle.std.proofs.Common.{arith}
use Rattle.lp_portable.proofs.Lines.{blank_is_no_line}
use Rattle.lp_portable.proofs.portable.one_line.Goals as goal

pub returns-then-is_empty : goal.returns-then-is_empty
returns-then-is_empty c line = blank_is_no_line c.args.text.now line (grind arith)
