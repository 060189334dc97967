use Rattle.std.proofs.lemmas.Bool.{false≢true}
use Rattle.influxdb_line_protocol.specs.code.Rules.{rules_of}
use Rattle.lp_portable.proofs.Lines.{cut_within, ends_by}
use Rattle.lp_conditions.proofs.LineEndLemmas.{test_is}
use Rattle.lp_conditions.proofs.line_ends.ends_at_newline.Goals as goal

pub returns-in-Ok-clause-cut : goal.returns-in-Ok-clause-cut
returns-in-Ok-clause-cut c =
    let cut = c.in-Ok.ensures in (
      λ never. absurd (false≢true never),
      λ whole. absurd (cut_within (rules_of c.args.dialect) c.args.piece.now c.in-Ok.field-0 cut.0 cut.1 cut.2 whole),
    )

pub returns-in-Ok-clause-is : goal.returns-in-Ok-clause-is
returns-in-Ok-clause-is c = test_is (rules_of c.args.dialect) c.args.piece.now _ (returns-in-Ok-clause-cut c)

pub returns-in-Err-clause-cut : goal.returns-in-Err-clause-cut
returns-in-Err-clause-cut c =
    rw c.is_ok.ensures.value
    (ends_by (rules_of c.args.dialect) c.args.piece.now c.in-Err.track c.track_on.result c.in-Err.ensures.0 c.track_on.ensures)

pub returns-in-Err-clause-is : goal.returns-in-Err-clause-is
returns-in-Err-clause-is c = test_is (rules_of c.args.dialect) c.args.piece.now _ (returns-in-Err-clause-cut c)
