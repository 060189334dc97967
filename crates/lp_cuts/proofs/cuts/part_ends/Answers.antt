use Rattle.influxdb_line_protocol.specs.code.Rules.{rules_of}
use Rattle.std.proofs.Common.{refl}
use Rattle.lp_cuts.specs.Cuts.{parts_from}
use Rattle.lp_cuts.proofs.PartLemmas.{parts_answer}
use Rattle.lp_cuts.proofs.PartEndLemmas.{ends_join}
use Rattle.lp_cuts.proofs.cuts.part_ends.Goals as goal

pub returns-in-Ok-clause-pieces : goal.returns-in-Ok-clause-pieces
returns-in-Ok-clause-pieces c =
    ends_join c.pieces_join.ensures.some c.pieces_join.ensures.one (rules_of c.args.dialect) c.args.input.now c.args.count
    c.in-Ok.ends.items (c.in-Ok.ensures.ends c.args.input.now refl refl)

pub returns-in-Ok-clause-answers : goal.returns-in-Ok-clause-answers
returns-in-Ok-clause-answers c =
    parts_answer c.pieces_join.ensures.one (rules_of c.args.dialect) c.args.input.now (parts_from 0 c.args.input.now c.in-Ok.ends.items)
    (ends_join c.pieces_join.ensures.some c.pieces_join.ensures.one (rules_of c.args.dialect) c.args.input.now c.args.count
    c.in-Ok.ends.items (c.in-Ok.ensures.ends c.args.input.now refl refl))
