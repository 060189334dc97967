use Rattle.lp_escapes.proofs.OneLine.{front_len}
use Rattle.lp_escapes.proofs.one_line.tell_text.Goals as goal

pub slice_bounds-front-end : goal.slice_bounds-front-end
slice_bounds-front-end c = front_len c.args.text.now c.if-text-le-MOST_TOLD.false
