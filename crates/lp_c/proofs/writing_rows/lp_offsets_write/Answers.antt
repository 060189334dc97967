use Rattle.std.proofs.Common.{◌≡◌, ◌∙◌, ap, arith, drop, length, min, refl, rules, sym}
use Rattle.influxdb_line_protocol.specs.code.Rules.{rules_of}
use Rattle.lp_offsets.specs.Numbers.{dialect_of}
use Rattle.lp_c.proofs.WritingLemmas.{reads_as_all}
use Rattle.lp_c.proofs.writing_rows.lp_offsets_write.Goals as goal

pub returns-clause-writes : goal.returns-clause-writes
returns-clause-writes c = λ known.
    let wrote = c.write_rows-count in
    let dialect : rules_of c.rules.result ≡ dialect_of c.args.dialect =
    c.rules.ensures ∙ ap dialect_of (sym c.in-Some.ensures.some) in
    let begins : c.min-from.result ≡ min c.args.written.now.row (length c.args.rows.now) = c.min-from.ensures in
    let rest : c.split_at.result.1.now ≡ drop c.min-from.result c.args.rows.now = search (rules) in
    record {
      count = wrote.result.0;
      lines = wrote.new.writing.lines.items;
      stop = wrote.result.1;
      are = rw (← dialect, ← begins, ← rest, ← c.no_portion.ensures) wrote.ensures.lines;
      reads_back = rw (← begins, ← rest, ← c.no_portion.ensures) (reads_as_all _ wrote.new.writing.lines.items c.admitted_lines_read_back.ensures.empty
          c.admitted_lines_read_back.ensures.points wrote.ensures.points wrote.ensures.lines.1);
      put = rw (← c.as_slice.ensures.value) c.put_front.ensures;
      fits = wrote.ensures.fits;
      stops = rw (← dialect, ← begins, ← rest, ← c.no_portion.ensures) wrote.ensures.stops;
      row = grind arith;
      within = grind arith;
      len = grind arith;
      need = refl;
      numbered = c.number-2.ensures;
    }
