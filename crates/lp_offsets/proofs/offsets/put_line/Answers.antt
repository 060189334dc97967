use Rattle.std.proofs.Common.{ap, arith}
use Rattle.influxdb_line_protocol.specs.code.Rules.{rules_of}
use Rattle.influxdb_line_protocol.specs.format.Lines.{answer}
use Rattle.lp_offsets.proofs.RowLemmas.{line_answers}
use Rattle.lp_offsets.specs.declared.offsets.OffsetRow.{OffsetRow}
use Rattle.lp_offsets.proofs.offsets.put_line.Goals as goal

pub returns-clause-answers : goal.returns-clause-answers
returns-clause-answers c =
    let told = c.put_told in
    line_answers (answer (rules_of c.args.line.now.rules) c.args.line.now.line.now) told.result.0.fault c.args.line.now.text.now told.new.parts told.new.room told.result.0
    c.args.used _ told.ensures.told c.in_default.is (omega (arith, c.if-parts-told.false, c.if-parts-told-2.false))
    (ap (λ (r : OffsetRow). r.tags) c.show_time.ensures.others) (ap (λ (r : OffsetRow). r.fields) c.show_time.ensures.others)
    (ap (λ (r : OffsetRow). r.measurement) c.show_time.ensures.others) (ap (λ (r : OffsetRow). r.measurement_copied) c.show_time.ensures.others)
    c.show_time.ensures.time c.show_time.ensures.none (omega (arith, c.if-room-told.false))
    (omega (arith, ap (λ (r : OffsetRow). r.room_len) c.show_time.ensures.others))
