use Rattle.influxdb_line_protocol.specs.code.Rules.{rules_of}
use Rattle.std.proofs.Common.{◌∙◌, rules}
use Rattle.lp_rebuild.proofs.Parts.{at_fault, at_no_fault, batch_part, faults_part}
use Rattle.lp_rebuild.proofs.program.run_in.Goals as goal

pub returns-then-is_err : goal.returns-then-is_err
returns-then-is_err g c =
    let read = c.in_ok-input.ensures in
    record {
      quiet = search rules;
      read = search rules;
      all_read = search rules;
      utf8 = search rules;
      rebuilt = search rules;
      batch = search rules;
      faults = search rules;
      flushed = search rules;
      part = λ failed.
          batch_part (rules_of c.args.dialect) _ _ _ _ _ _ _ _ _ read.ok read.end
          (c.in-Ok.ensures.0 ∙ c.as_slice.ensures.value) c.in-Ok-rebuild_in.ensures.rebuilds
          c.as_slice-2.ensures.value (at_fault c.write_all.result c.if-is_err.ensures.value c.write_all.ensures.part);
      write = search rules;
      counts = search rules;
    }

pub returns-then-is_err-2 : goal.returns-then-is_err-2
returns-then-is_err-2 g c =
    let read = c.in_ok-input.ensures in
    record {
      quiet = search rules;
      read = search rules;
      all_read = search rules;
      utf8 = search rules;
      rebuilt = search rules;
      batch = search rules;
      faults = search rules;
      flushed = search rules;
      part = λ failed.
          faults_part (rules_of c.args.dialect) _ _ _ _ _ _ _ _ _ _ _ read.ok read.end
          (c.in-Ok.ensures.0 ∙ c.as_slice.ensures.value) c.in-Ok-rebuild_in.ensures.rebuilds
          c.as_slice-2.ensures.value c.as_slice-3.ensures.value
          (at_no_fault c.write_all.result c.if-is_err.ensures.value c.write_all.ensures.ok)
          (at_fault c.write_all-2.result c.if-is_err-2.ensures.value c.write_all-2.ensures.part);
      write = search rules;
      counts = search rules;
    }
