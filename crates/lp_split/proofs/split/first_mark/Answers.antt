use Rattle.std.proofs.{Common.refl, Common.arith, lemmas.List.take_rest}
use Rattle.lp_split.specs.code.{is_mark, rules_of}
use Rattle.lp_split.proofs.lemmas.split.FirstMarks.{first_is, seen_later, none_seen, found_after, none_after}
use Rattle.lp_split.proofs.split.first_mark.Goals as goal

pub returns-then-seen-ne0 : goal.returns-then-seen-ne0
returns-then-seen-ne0 c =
    let seen = c.requires in
    let fits = seen.within in
    record {
      first = first_is _ _ 0 seen.count _ _ (omega arith) seen.few seen.are (omega arith) refl _ (omega arith)
          (λ k from to. absurd (omega arith));
      later = seen_later _ _ 0 seen.count _ _ _ (omega arith) seen.few seen.are (omega arith) refl (omega arith);
    }

pub returns-then-marks-ne0 : goal.returns-then-marks-ne0
returns-then-marks-ne0 c =
    let l = c.loop-at in
    let marks = c.marks_in-marks.ensures in
    record {
      first = first_is _ _ l.at 64 _ _ (omega arith) (omega arith) marks (omega arith) refl _ refl l.invariant.1;
      later = seen_later _ _ l.at 64 _ _ _ (omega arith) (omega arith) marks (omega arith) refl refl;
    }

pub loop-at-preserved : goal.loop-at-preserved
loop-at-preserved c =
    let l = c.loop-at in
    (omega arith, none_seen _ _ l.at 64 _ (omega arith) (omega arith) c.marks_in-marks.ensures c.if-marks-ne0.false l.invariant.1)

pub returns-in_err-last-clause-first : goal.returns-in_err-last-clause-first
returns-in_err-last-clause-first c =
    let l = c.loop-at in
    rw c.from_residual.ensures
    (none_after (is_mark (rules_of c.args.dialect)) c.args.text.now _ l.at (omega arith) (take_rest c.args.text.now l.at)
    l.invariant.1 c.in_err-last.ensures)

pub returns-clause-first : goal.returns-clause-first
returns-clause-first c =
    let l = c.loop-at in
    found_after (is_mark (rules_of c.args.dialect)) c.args.text.now _ l.at (omega arith) (take_rest c.args.text.now l.at) l.invariant.1
    c.in_ok-last.last c.in_ok-last.ensures
