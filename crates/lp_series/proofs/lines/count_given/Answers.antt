use Rattle.std.proofs.Common.{◌++◌, List, subst, sym, ap, ◌∙◌, append-nil}
use Rattle.std.proofs.lemmas.Result.{IfOk-weaker, on_ok_weaker}
use Rattle.influxdb_line_protocol.specs.code.Rules.{rules_of}
use Rattle.influxdb_line_protocol.specs.format.Points.{Point}
use Rattle.lp_series.specs.Counting.{Counts}
use Rattle.lp_series.proofs.TextLemmas.{no_text_points, no_text_refused, text_points, text_refused}
use Rattle.lp_series.proofs.lines.count_given.Goals as goal

-- bytes that are no text have no line
pub returns-in_default-text_of-clause-counts : goal.returns-in_default-text_of-clause-counts
returns-in_default-text_of-clause-counts c before counts =
    let none = no_text_points (rules_of c.args.dialect) c.args.given c.in-Ok.bytes c.in-Ok.is c.in_default-text_of.ensures in
    subst (Counts c.args.counts.now) (sym (ap (λ (ps : List Point). before ++ ps) none ∙ append-nil before)) counts

-- the line of a text was counted
pub returns-clause-counts : goal.returns-clause-counts
returns-clause-counts c =
    let text = c.in-Some.ensures in
    let points = text_points (rules_of c.args.dialect) c.args.given c.in-Ok.bytes c.in-Some.piece.now c.in-Ok.is text.1 text.0 in
    on_ok_weaker c.count_text-counted.result
    (λ more before counts. subst (λ (ps : List Point). Counts c.count_text-counted.new.counts (before ++ ps)) (sym points) (more before counts))
    c.count_text-counted.ensures.counts

-- they are an item that is none
pub returns-in_default-text_of-clause-refused : goal.returns-in_default-text_of-clause-refused
returns-in_default-text_of-clause-refused c = sym (no_text_refused (rules_of c.args.dialect) c.args.given c.in-Ok.bytes c.in-Ok.is c.in_default-text_of.ensures)

-- so it is with the item of a text
pub returns-clause-refused : goal.returns-clause-refused
returns-clause-refused c =
    let text = c.in-Some.ensures in
    let refused = text_refused (rules_of c.args.dialect) c.args.given c.in-Ok.bytes c.in-Some.piece.now c.in-Ok.is text.1 text.0 in
    IfOk-weaker c.count_text-counted.result _ _ (λ told is. is ∙ sym refused) c.count_text-counted.ensures.refused
