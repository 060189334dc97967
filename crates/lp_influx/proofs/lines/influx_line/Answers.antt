use Rattle.std.proofs.Common.{◌∙◌, sym}
use Rattle.lp_influx.specs.code.Line.{parts_of}
use Rattle.lp_influx.proofs.LineParts.{point_is}
use Rattle.lp_influx.proofs.lines.influx_line.Goals as goal

pub returns : goal.returns
returns c = c.in_ok-point.ensures ∙ sym (point_is c.args.text.now c.without_gap-line.result.now (parts_of c.in-Some.parts) c.without_gap-line.ensures.value
    (sym c.is_comment.ensures ∙ c.if-is_comment.false) (rw c.in-Some.is at c.in_ok-parts.ensures))
