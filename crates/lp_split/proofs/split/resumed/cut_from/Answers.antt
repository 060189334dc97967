use Rattle.std.proofs.Common.{List, ℕ, subst, sym, arith}
use Rattle.std.proofs.lemmas.List.{take_all, take_rest}
use Rattle.lp_split.specs.code.Tracks.{IsTrackOf}
use Rattle.lp_split.proofs.lemmas.split.FirstMarks.{none_are_seen}
use Rattle.lp_split.proofs.lemmas.split.TrackedPieces.{tracked_is_last, tracks_cut, tracks_on}
use Rattle.lp_split.proofs.split.resumed.cut_from.Goals as goal

pub returns-in-Ok : goal.returns-in-Ok
returns-in-Ok c = λ dialect is.
    let text = c.args.text.now in (
      tracks_cut dialect text _ c.args.at c.in-Ok.found c.args.track (take_rest text c.args.at) c.requires.within is c.in-Ok.ensures,
      none_are_seen _ _,
    )

pub returns-in-Err : goal.returns-in-Err
returns-in-Err c = λ dialect is.
    let text = c.args.text.now in
    let all = tracks_on dialect text _ c.args.at c.args.track c.in-Err.track (take_rest text c.args.at) c.requires.within is
    c.in-Err.ensures in (
      tracked_is_last dialect text c.in-Err.track all,
      (
        omega arith,
        omega (arith, c.in-Err.ensures.0),
        subst (λ (t : List ℕ). IsTrackOf dialect t c.in-Err.track) (sym (take_all _ text (omega arith))) all,
      ),
    )
