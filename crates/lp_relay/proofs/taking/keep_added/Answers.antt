use Rattle.std.proofs.Common.{◌≡◌, ◌∙◌, Ok, Some, ap, sym, subst}
use Rattle.std.specs.Prelude.{IfOk}
use Rattle.influxdb_line_protocol.specs.code.{Parsed.line_read, Rules.rules_of}
use Rattle.influxdb_line_protocol.specs.format.Lines.{answer}
use Rattle.lp_relay.specs.declared.taking.Taken.TheVariants as took
use Rattle.lp_conditions.specs.FieldTypes.{types_of}
use Rattle.lp_relay.specs.Taking.{KeepsItem}
use Rattle.lp_relay.proofs.TimedPieces.{read_as_line}
use Rattle.lp_relay.proofs.taking.keep_added.Goals as goal

pub returns-clause-kept : goal.returns-clause-kept
returns-clause-kept c =
    let a = answer (rules_of c.args.reader.now.dialect) c.args.text.now in
    let read = read_as_line c.in_ok-read.field-0 c.read.new.self.line a c.in_default.not-Some c.in_ok-read.ensures.read in
    let same : Ok (line_read c.line.result.now) ≡ a = ap (λ l. Ok (line_read l)) c.line.ensures ∙ sym read in
    subst (λ a. IfOk c.keep_read.result (λ after. KeepsItem (Some c.args.strict) a c.args.begin took.Carried c.args.batch.now.items
    (types_of c.args.types.now) after c.keep_read.new.batch.items (types_of c.keep_read.new.types))) same c.keep_read.ensures
