use Rattle.std.proofs.Common.{[], ◌∷◌, refl, sym, ap, subst, ◌∙◌, ◌≡◌, length, true, false}
use Rattle.influxdb_line_protocol.specs.code.Rules.{rules_of}
use Rattle.lp_files.specs.declared.batches.Size.{Size}
use Rattle.lp_files.specs.Batches.{both, line_size, takes_line}
use Rattle.lp_files.proofs.Fitting.{FitsSoFar, exist_left, fits_all, fits_more, none_left, takes_no_more}
use Rattle.lp_files.proofs.batches.lines_that_fit.Goals as goal

pub returns-then-is_none : goal.returns-then-is_none
returns-then-is_none c =
    let after = c.next.new.self in
    let left = none_left after.dialect c.remainder.result after.text c.if-is_none.ensures c.remainder.ensures in
    fits_all c.pieces_join.ensures.one (rules_of c.args.dialect) c.args.text.now c.args.limits c.args.batch c.loop-piece.fit
    (c.in-Some.piece.now ∷ []) (c.loop-piece.invariant.done _ (c.in-Some.ensures.steps.1 [] left)) refl

pub returns-then-not-take_line : goal.returns-then-not-take_line
returns-then-not-take_line c =
    let after = c.next.new.self in
    let others = exist_left c.pieces_join.ensures.some after.dialect after.text in
    let takes : takes_line c.args.limits (both c.args.batch c.loop-piece.fit) (line_size (length c.in-Some.piece.now)) ≡ false =
    rw c.and.ensures at (rw c.of_line-line.ensures at (sym (c.if-not-take_line.ensures))) in
    fits_all c.pieces_join.ensures.one (rules_of c.args.dialect) c.args.text.now c.args.limits c.args.batch c.loop-piece.fit
    (c.in-Some.piece.now ∷ others.0) (c.loop-piece.invariant.done _ (c.in-Some.ensures.steps.1 others.0 others.1))
    (takes_no_more c.args.limits c.args.batch c.loop-piece.fit c.in-Some.piece.now others.0 takes)

pub loop-piece-preserved : goal.loop-piece-preserved
loop-piece-preserved c =
    let after = c.next.new.self in
    let h = c.loop-piece.invariant in
    let fit = c.loop-piece.fit in
    let takes : takes_line c.args.limits (both c.args.batch fit) (line_size (length c.in-Some.piece.now)) ≡ true =
    rw c.and.ensures at (rw c.of_line-line.ensures at (sym (c.if-not-take_line.ensures))) in
    record {
      dialect = c.in-Some.ensures.steps.0 ∙ h.dialect;
      done = λ others left.
          subst (λ (size : Size). FitsSoFar (rules_of c.args.dialect) c.args.text.now c.args.limits c.args.batch size others)
          (sym (c.and-fit.ensures ∙ ap (both fit) c.of_line-line.ensures))
          (fits_more (rules_of c.args.dialect) after.dialect c.args.text.now c.args.limits c.args.batch fit c.in-Some.piece.now
          c.remainder.result after.text others c.if-is_none.ensures c.remainder.ensures left takes
          (h.done _ (c.in-Some.ensures.steps.1 others left)));
    }
