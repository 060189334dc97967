use Rattle.std.proofs.Common.{◌≡◌, ◌-◌, arith, ap, take, drop, length, take-append-drop, length-take}
use Rattle.std.proofs.Math.Seq.{take-add}
use Rattle.std.proofs.lemmas.List.Sums.{count_by-le-length}
use Rattle.lp_portable.specs.code.Marks.{held, is_mark}
use Rattle.lp_portable.proofs.MarksCounted.{held_append, ones_held}
use Rattle.lp_portable.proofs.marks.marks_in.Goals as goal

pub loop-at-preserved : goal.loop-at-preserved
loop-at-preserved c =
    let bytes = c.args.bytes.now in
    let was = c.loop-at in
    let next = take 16 (drop was.at bytes) in
    let ones = ones_held bytes was.at _ c.mark_mask.ensures in
    let few = count_by-le-length is_mark next in (
      omega (arith, c.loop-at-test.true, was.invariant.0),
      omega (arith, ones, few, was.invariant.1, length-take 16 (drop was.at bytes)),
      omega (arith, ones, was.invariant.2, ap (held is_mark) (take-add was.at 16 bytes), held_append is_mark (take was.at bytes) next),
    )

pub returns-clause-value : goal.returns-clause-value
returns-clause-value c =
    let bytes = c.args.bytes.now in
    let was = c.loop-at in
    omega (
      arith,
      was.invariant.2,
      c.last_marks.ensures.value,
      ap (λ n. held is_mark (drop n bytes)) (let there : length bytes - (length bytes - was.at) ≡ was.at = omega (arith, was.invariant.0) in there),
      ap (held is_mark) (take-append-drop was.at bytes),
      held_append is_mark (take was.at bytes) (drop was.at bytes),
    )

pub returns-clause-few : goal.returns-clause-few
returns-clause-few c = omega (arith, c.loop-at.invariant, c.last_marks.ensures.few)
