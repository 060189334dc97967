use Rattle.std.proofs.Common.{arith}
use Rattle.lp_scan.specs.code.Tokens.{known_of}
use Rattle.lp_build.proofs.lemmas.builder.BuilderLemmas.{escaped_none}
use Rattle.lp_build.proofs.builder.texts.next_escape.Goals as goal

pub returns-then-at-text-clause-none : goal.returns-then-at-text-clause-none
returns-then-at-text-clause-none c =
    escaped_none (known_of c.args.kind) c.args.text.now c.known.result _ c.known.ensures.bytes c.before_first-at.ensures (omega arith)
