use Rattle.lp_split.specs.code.Rules.{rules_of}
use Rattle.std.proofs.{Common.subst, Common.arith, lemmas.Str.IsCharBoundary-after_ascii}
use Rattle.lp_format.specs.format.Pieces.{IsLastPiece, Pieces.last}
use Rattle.lp_format.proofs.lemmas.split.SplitPieces.{Pieces-cut_at}
use Rattle.lp_split.proofs.split.SplitLinesIterator.next.Goals as goal

pub range_from-requires : goal.range_from-requires
range_from-requires c = grind (arith, IsCharBoundary-after_ascii)

pub returns-in-Some-clause-steps : goal.returns-in-Some-clause-steps
returns-in-Some-clause-steps c = grind (arith, Pieces-cut_at)

pub returns-in-None-clause-steps : goal.returns-in-None-clause-steps
returns-in-None-clause-steps c = (
  cc,
  λ others none.
      rw (← c.self.view_is, c.in_ok-text.was, none)
      (last c.in_ok-text.text.now (subst (IsLastPiece (rules_of c.self.inside.dialect)) c.as_bytes.ensures.value c.in-None.ensures.cut)),
)
