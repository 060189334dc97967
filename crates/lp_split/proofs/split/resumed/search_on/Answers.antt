use Rattle.std.proofs.{Common.arith, lemmas.List.take_rest}
use Rattle.lp_split.specs.code.{rules_of}
use Rattle.lp_split.proofs.lemmas.split.TrackedPieces.{all_quiet, still_last}
use Rattle.lp_split.proofs.split.resumed.search_on.Goals as goal

pub returns-in-Quiet : goal.returns-in-Quiet
returns-in-Quiet c =
    let known = rw c.in-Quiet.is at c.requires in
    all_quiet _ c.args.text.now (still_last _ c.args.text.now _ c.in-Quiet.n known.1 (take_rest c.args.text.now c.in-Quiet.n) (grind arith))

pub returns-in-Within : goal.returns-in-Within
returns-in-Within c = c.cut_from.ensures (rules_of c.args.dialect) (rw c.in-Within.is at c.requires).2

pub returns-in-None-late_cut : goal.returns-in-None-late_cut
returns-in-None-late_cut c = c.cut_from-in-None-late_cut.ensures (rules_of c.args.dialect) c.new.ensures.track
