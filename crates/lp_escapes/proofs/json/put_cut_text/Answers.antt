use Rattle.std.proofs.Common.{◌<◌, List, ℕ, length, subst, sym}
use Rattle.lp_escapes.proofs.OneLine.{front_len}
use Rattle.lp_escapes.proofs.json.put_cut_text.Goals as goal

pub slice_bounds-utf8_front-end : goal.slice_bounds-utf8_front-end
slice_bounds-utf8_front-end c =
    front_len c.as_bytes.result.now
    (subst (λ (l : List ℕ). 200 < length l) (sym c.as_bytes.ensures.value) c.if-text-le-MOST_TOLD.false)
