use Rattle.std.proofs.Common.{◌≡◌, ◌<◌, ◌∙◌, length, ap, subst, string_bytes, arith}
use Rattle.std.proofs.lemmas.Grind.{common_steps}
use Rattle.lp_conditions.specs.LineTimes.{piece_at, front_of}
use Rattle.lp_conditions.proofs.TimeLemmas.{front_stays, text_boundary}
use Rattle.lp_conditions.proofs.times.piece_at.Goals as goal

pub range-requires-clause-end_boundary : goal.range-requires-clause-end_boundary
range-requires-clause-end_boundary c =
    text_boundary c.args.piece.now c.args.text.now c.saturating_sub-front.result c.utf8.text c.requires.text c.saturating_sub-front.ensures

pub returns-clause-front : goal.returns-clause-front
returns-clause-front c =
    let value : string_bytes c.put_text_at.new.out ≡ piece_at c.args.came c.args.time c.args.piece.now = grind (arith, common_steps) in
    ap front_of value
    ∙ front_stays c.args.came c.args.time c.args.piece.now c.ranges.time (subst (λ l. 0 < length l) c.requires.text c.requires.some)
