use Rattle.std.proofs.Common.{◌≡◌, ◌∙◌, Err, Ok, ap, sym, arith, to_z-of_z}
use Rattle.std.proofs.lemmas.Result.{on_ok_weaker}
use Rattle.influxdb_line_protocol.specs.code.{Parsed.line_read, Rules.rules_of}
use Rattle.influxdb_line_protocol.specs.format.Lines.{answer}
use Rattle.lp_values.specs.code.SpelledParts.{spelled_fault}
use Rattle.lp_conditions.specs.FieldTypes.{types_of}
use Rattle.lp_conditions.specs.LineTimes.{change_of}
use Rattle.lp_relay.proofs.TimedPieces.{is_late, kept_time_fault, read_as_line, stays_fault, stays_line, takes_time_fault}
use Rattle.lp_relay.proofs.taking.take_timed.Goals as goal

pub take_line-requires-clause-timed : goal.take_line-requires-clause-timed
take_line-requires-clause-timed c =
    let s = c.args.settings.now in
    let text = c.args.line.text.now in
    let fault : answer (rules_of s.dialect) text ≡ Err (spelled_fault c.in-Some.field-0) =
    ap (λ e. answer (rules_of e) text) (sym c.requires.dialect) ∙ (rw c.in-Some.is at c.in_ok-read.ensures.read) in
    stays_fault s c.args.line.whole.now c.args.line.piece.now text c.args.times.now (spelled_fault c.in-Some.field-0) c.requires.line c.requires.times fault

pub take_line-requires-in-Stays-clause-timed : goal.take_line-requires-in-Stays-clause-timed
take_line-requires-in-Stays-clause-timed c =
    let s = c.args.settings.now in
    let text = c.args.line.text.now in
    let l = c.read.new.self.line in
    let read : answer (rules_of s.dialect) text ≡ Ok (line_read l) =
    ap (λ e. answer (rules_of e) text) (sym c.requires.dialect)
    ∙ read_as_line c.in_ok-read.field-0 l (answer (rules_of c.args.reader.now.dialect) text) c.in_default.not-Some c.in_ok-read.ensures.read in
    stays_line s c.args.line.whole.now c.args.line.piece.now text c.args.times.now l c.requires.line c.requires.times read
    (ap (λ l. change_of c.args.times.now l.timestamp) (sym c.line.ensures) ∙ sym c.change_of.ensures ∙ c.in-Stays.is)

pub take_at-requires-clause-becomes : goal.take_at-requires-clause-becomes
take_at-requires-clause-becomes c =
    let s = c.args.settings.now in
    let text = c.args.line.text.now in
    let l = c.read.new.self.line in
    record {
      times = c.args.times.now;
      line = line_read l;
      looked = c.requires.times;
      read = ap (λ e. answer (rules_of e) text) (sym c.requires.dialect)
          ∙ read_as_line c.in_ok-read.field-0 l (answer (rules_of c.args.reader.now.dialect) text) c.in_default.not-Some c.in_ok-read.ensures.read;
      timestamp = ap (λ l. l.timestamp) (sym c.line.ensures);
      becomes = first_of (grind (arith, to_z-of_z), grind (arith, c.change_of.ensures, c.in-Becomes.is, to_z-of_z));
    }

pub returns-in-Wrong-clause-taken : goal.returns-in-Wrong-clause-taken
returns-in-Wrong-clause-taken c =
    let s = c.args.settings.now in
    let text = c.args.line.text.now in
    let before = c.args.pending.now.so_far.batch.items in
    let types = types_of c.args.pending.now.types in
    let l = c.read.new.self.line in
    let read : answer (rules_of s.dialect) text ≡ Ok (line_read l) =
    ap (λ e. answer (rules_of e) text) (sym c.requires.dialect)
    ∙ read_as_line c.in_ok-read.field-0 l (answer (rules_of c.args.reader.now.dialect) text) c.in_default.not-Some c.in_ok-read.ensures.read in
    let late = is_late s c.args.line.whole.now c.args.line.piece.now text c.args.times.now l c.in-Wrong.fault c.requires.line c.requires.times read
    (ap (λ l. change_of c.args.times.now l.timestamp) (sym c.line.ensures) ∙ sym c.change_of.ensures ∙ c.in-Wrong.is) in
    on_ok_weaker c.end_piece.result
    (λ ends. ends before types (takes_time_fault s types c.args.line.whole c.in-Wrong.fault before late)
    (kept_time_fault s types c.args.line.whole.now c.in-Wrong.fault late)) c.end_piece.ensures.ends
