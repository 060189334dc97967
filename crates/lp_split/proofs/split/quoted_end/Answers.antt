use Rattle.std.proofs.{Common.refl, Common.arith, lemmas.List.take_rest}
use Rattle.lp_split.proofs.lemmas.split.SplitStretches.{bare_to, quoted_on, quoted_past, stop_within}
use Rattle.lp_split.proofs.split.quoted_end.Goals as goal

pub bounds-text-at : goal.bounds-text-at
bounds-text-at c = stop_within c.requires (omega arith) refl

pub returns-then-text-at-eq34-clause-bare : goal.returns-then-text-at-eq34-clause-bare
returns-then-text-at-eq34-clause-bare c = bare_to c.requires (omega arith) refl

pub returns-then-text-at-eq34-clause-stays : goal.returns-then-text-at-eq34-clause-stays
returns-then-text-at-eq34-clause-stays c = quoted_past c.requires (omega arith) refl

pub returns-clause-stays : goal.returns-clause-stays
returns-clause-stays c =
    quoted_on c.args.text.now _ c.args.at c.bare_len.result (take_rest c.args.text.now c.args.at) c.requires.starts_bare c.bare_len.ensures
