use Rattle.std.proofs.Common.{◌-◌, arith, drop, length, length-drop}
use Rattle.std.proofs.lemmas.List.Sums.{count_by-le-length}
use Rattle.lp_portable.specs.code.Marks.{is_mark}
use Rattle.lp_portable.proofs.MarksCounted.{last_held}
use Rattle.lp_portable.proofs.marks.last_marks.Goals as goal

pub overflow_sub-result : goal.overflow_sub-result
overflow_sub-result c =
    omega (arith, last_held c.args.bytes.now _ c.args.left _ _ (omega (arith, c.requires.1)) c.requires.0 c.mark_mask-mask.ensures c.ones_below.ensures)

pub returns-clause-value : goal.returns-clause-value
returns-clause-value c =
    omega (arith, last_held c.args.bytes.now _ c.args.left _ _ (omega (arith, c.requires.1)) c.requires.0 c.mark_mask-mask.ensures c.ones_below.ensures)

pub returns-clause-few : goal.returns-clause-few
returns-clause-few c =
    let bytes = c.args.bytes.now in
    omega (
      arith,
      last_held bytes _ c.args.left _ _ (omega (arith, c.requires.1)) c.requires.0 c.mark_mask-mask.ensures c.ones_below.ensures,
      count_by-le-length is_mark (drop (length bytes - c.args.left) bytes),
      length-drop (length bytes - c.args.left) bytes,
      c.requires,
    )
