use Rattle.std.proofs.lemmas.Bool.{not-true}
use Rattle.lp_split.specs.code.{Head, Quoted}
use Rattle.lp_split.proofs.lemmas.split.{SplitStretches.head_bytes, SplitStretches.quoted_bytes, TrackedPieces.line_stays}
use Rattle.lp_split.proofs.split.tracked.leap.Goals as goal

pub returns-in-Head-clause-leads : goal.returns-in-Head-clause-leads
returns-in-Head-clause-leads c =
    let passed = c.bare_len.ensures in
    line_stays _ _ Head _ c.in-Line.is c.in-Head.is (not-true _ c.if-not-place.true) passed.is_bare
    (λ bytes is_bare h. head_bytes bytes c.args.text.now is_bare _ _ c.bare_len.result passed h)

pub returns-in-Quoted-clause-leads : goal.returns-in-Quoted-clause-leads
returns-in-Quoted-clause-leads c =
    let passed = c.bare_len-in-Quoted.ensures in
    line_stays _ _ Quoted _ c.in-Line.is c.in-Quoted.is (not-true _ c.if-not-place.true) passed.is_bare
    (λ bytes is_bare h. quoted_bytes bytes c.args.text.now is_bare _ _ c.bare_len-in-Quoted.result passed h)
