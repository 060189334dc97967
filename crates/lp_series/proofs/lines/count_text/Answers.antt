use Rattle.std.proofs.Common.{◌≡◌, ℕ, ◌<◌, ◌++◌, List, Ok, Err, arith, length, subst, sym}
use Rattle.influxdb_line_protocol.specs.code.{Parsed.line_read, Rules.rules_of}
use Rattle.influxdb_line_protocol.specs.format.{Lines.answer, Points.Point, Trimming.trimmed}
use Rattle.lp_values.specs.code.SpelledParts.{spelled_fault}
use Rattle.lp_lines.specs.code.Unreads.{IsUnread}
use Rattle.lp_lines.specs.declared.unread.Unread.{Unread}
use Rattle.lp_series.specs.Counting.{Counts}
use Rattle.lp_series.proofs.TextLemmas.{blank_points, blank_refused, fault_points, fault_refused, line_points, line_refused, nothing_more}
use Rattle.lp_series.proofs.lines.count_text.Goals as goal

-- a blank piece has no line
pub returns-then-is_empty-clause-counts : goal.returns-then-is_empty-clause-counts
returns-then-is_empty-clause-counts c =
    let blank : length (trimmed c.args.piece.now) ≡ 0 = grind arith in
    nothing_more (rules_of c.args.dialect) c.args.piece.now c.args.counts.now (blank_points (rules_of c.args.dialect) c.args.piece.now blank)

-- nor an item
pub returns-then-is_empty-clause-refused : goal.returns-then-is_empty-clause-refused
returns-then-is_empty-clause-refused c =
    let blank : length (trimmed c.args.piece.now) ≡ 0 = grind arith in
    sym (blank_refused (rules_of c.args.dialect) c.args.piece.now blank)

-- a line is no item that is none
pub returns-in_ok-add_read-in-Ok-clause-refused : goal.returns-in_ok-add_read-in-Ok-clause-refused
returns-in_ok-add_read-in-Ok-clause-refused c =
    let dialect = rules_of c.args.dialect in
    let some : 0 < length (trimmed c.args.piece.now) = grind arith in
    let line = line_read c.refill_line.new.line in
    let answered = subst (λ (text : List ℕ). answer dialect text ≡ Ok line) c.trimmed-text.ensures c.in-Ok.ensures.value in
    sym (line_refused dialect c.args.piece.now line some answered)

-- the line of a piece was counted
pub returns-in_ok-add_read-in-Ok-clause-counts : goal.returns-in_ok-add_read-in-Ok-clause-counts
returns-in_ok-add_read-in-Ok-clause-counts c =
    let dialect = rules_of c.args.dialect in
    let some : 0 < length (trimmed c.args.piece.now) = grind arith in
    let line = line_read c.refill_line.new.line in
    let answered = subst (λ (text : List ℕ). answer dialect text ≡ Ok line) c.trimmed-text.ensures c.in-Ok.ensures.value in
    let points = line_points dialect c.args.piece.now line some answered in
    λ before counts. subst (λ (ps : List Point). Counts c.add_read.new.self (before ++ ps)) (sym points) (c.in_ok-add_read-in-Ok.ensures.counts before counts)

-- a line with a fault is none
pub returns-in-Err-Fault-clause-counts : goal.returns-in-Err-Fault-clause-counts
returns-in-Err-Fault-clause-counts c =
    let dialect = rules_of c.args.dialect in
    let some : 0 < length (trimmed c.args.piece.now) = grind arith in
    let fault = spelled_fault c.in-Err-Fault.field-0-0 in
    let unread = subst (λ (u : Unread). IsUnread u (answer dialect c.trimmed-text.result.now)) c.in-Err-Fault.field-0-is c.in-Err-Fault.ensures.value in
    let answered = subst (λ (text : List ℕ). answer dialect text ≡ Err fault) c.trimmed-text.ensures unread in
    nothing_more dialect c.args.piece.now c.args.counts.now (fault_points dialect c.args.piece.now fault some answered)

-- it is an item that is no line
pub returns-in-Err-Fault-clause-refused : goal.returns-in-Err-Fault-clause-refused
returns-in-Err-Fault-clause-refused c =
    let dialect = rules_of c.args.dialect in
    let some : 0 < length (trimmed c.args.piece.now) = grind arith in
    let fault = spelled_fault c.in-Err-Fault.field-0-0 in
    let unread = subst (λ (u : Unread). IsUnread u (answer dialect c.trimmed-text.result.now)) c.in-Err-Fault.field-0-is c.in-Err-Fault.ensures.value in
    let answered = subst (λ (text : List ℕ). answer dialect text ≡ Err fault) c.trimmed-text.ensures unread in
    sym (fault_refused dialect c.args.piece.now fault some answered)
