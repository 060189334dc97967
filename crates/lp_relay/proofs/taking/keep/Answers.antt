use Rattle.std.proofs.lemmas.Result.{IfOk-weaker}
use Rattle.influxdb_line_protocol.specs.code.Rules.{rules_of}
use Rattle.influxdb_line_protocol.specs.format.Lines.{answer}
use Rattle.lp_conditions.specs.FieldTypes.{types_of}
use Rattle.lp_relay.proofs.TypeLemmas.{is_kept}
use Rattle.lp_relay.proofs.taking.keep.Goals as goal

pub returns-clause-kept : goal.returns-clause-kept
returns-clause-kept c =
    IfOk-weaker c.keep_added.result _ _
    (λ after. is_kept c.args.settings.now.types c.in-Some.strict (answer (rules_of c.args.reader.now.dialect) c.args.text.now) c.args.begin
    c.args.taken c.args.batch.now.items (types_of c.args.types.now) after c.keep_added.new.batch.items (types_of c.keep_added.new.types)
    c.in-Some.is c.in-Carried.is) c.keep_added.ensures.kept
