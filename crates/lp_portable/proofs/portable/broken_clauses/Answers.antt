use Rattle.std.proofs.Common.{◌≡◌, ℕ, List, Err, false, Bool, arith, subst}
use Rattle.lp_format.specs.format.{Strict, answer}
use Rattle.lp_portable.specs.code.Telling.{TellsRead}
use Rattle.lp_portable.proofs.{Lines.fault_is_no_line}
use Rattle.lp_portable.proofs.portable.broken_clauses.Goals as goal

pub returns-then-not-branch-clause-value : goal.returns-then-not-branch-clause-value
returns-then-not-branch-clause-value c line =
    let no : c.in_ok-is_read.field-0 ≡ false = grind arith in
    let told = subst (λ (b : Bool). TellsRead c.in-Some-one_line.line.now c.is_read.new.read b) no c.in_ok-is_read.ensures.value in
    fault_is_no_line c.args.text.now told.0 line (subst (λ (t : List ℕ). answer Strict t ≡ Err told.0) c.in-Some-one_line.ensures.trimmed told.1)
