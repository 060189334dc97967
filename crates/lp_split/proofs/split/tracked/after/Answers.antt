use Rattle.std.proofs.Common.{◌≡◌, ◌⊎◌, arith}
use Rattle.lp_split.proofs.lemmas.split.TrackedPieces.{blanks_end, blanks_go_on, comment_begins, goes_on_to_newline, line_ends}
use Rattle.lp_split.proofs.split.tracked.after.Goals.{then-byte-eq32, else-byte-eq32}
use Rattle.lp_split.proofs.split.tracked.after.Goals as goal
use Rattle.lp_format.specs.format.{space, tab}

pub returns-in_err-after_byte-in-Line-clause-leads : goal.returns-in_err-after_byte-in-Line-clause-leads
returns-in_err-after_byte-in-Line-clause-leads c =
    rw (c.from_residual-in_err-after_byte-in-Line.ensures, c.in-Line.is) (line_ends _ _ c.in_err-after_byte-in-Line.ensures.steps)

pub returns-in-ToNewline-2-clause-leads : goal.returns-in-ToNewline-2-clause-leads
returns-in-ToNewline-2-clause-leads c =
    rw c.in-ToNewline-2.is (goes_on_to_newline c.args.byte c.if-byte-eq10.false)

pub returns-in-Blanks-clause-leads : goal.returns-in-Blanks-clause-leads
returns-in-Blanks-clause-leads c =
    rw (c.if-byte-eq35.true, c.in-Blanks.is) (comment_begins c.in-Blanks.field-0)

pub returns-in_ok-after_byte-in-Blanks-2-clause-leads : goal.returns-in_ok-after_byte-in-Blanks-2-clause-leads
returns-in_ok-after_byte-in-Blanks-2-clause-leads c =
    let next = c.in_ok-after_byte-in-Blanks-2 in
    let blank : (c.args.byte ≡ space) ⊎ (c.args.byte ≡ tab) = grind (arith, then-byte-eq32, else-byte-eq32) in
    rw c.in-Blanks-2.is (blanks_go_on c.in-Blanks-2.place next.field-0 c.args.byte blank next.ensures.steps)

pub returns-in_ok-after_byte-in-Blanks-3-clause-leads : goal.returns-in_ok-after_byte-in-Blanks-3-clause-leads
returns-in_ok-after_byte-in-Blanks-3-clause-leads c = grind (arith, blanks_end)
