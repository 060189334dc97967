use Rattle.std.proofs.Common.{◌≡◌, Option, Some, None, arith, subst, sym}
use Rattle.std.specs.BTreeMap.{get_by_text}
use Rattle.std.proofs.lemmas.Map.Text.{text_keys}
use Rattle.influxdb_line_protocol.specs.code.Parsed.{parsed_point}
use Rattle.lp_series.specs.declared.measurements.MeasurementCounts.{MeasurementCounts}
use Rattle.lp_series.specs.CountSteps.{CountsAfter}
use Rattle.lp_series.proofs.KeptCounts.{at_err, one_set}
use Rattle.lp_series.proofs.measurements.count_line.Goals as goal

-- a line more of a known measurement
pub returns-in-Some-clause-counts : goal.returns-in-Some-clause-counts
returns-in-Some-clause-counts c =
    let p = parsed_point c.args.line.now in
    let found : Some c.in-Some.counts.now ≡ get_by_text c.args.measurements.now p.measurement = grind (arith, text_keys) in (
      c.add.new.self,
      subst (λ (o : Option MeasurementCounts). CountsAfter c.args.is_new p o c.add.new.self) found c.in_ok-add.ensures.counts,
      λ q. grind (arith, text_keys),
    )

-- the first line of a measurement
pub returns-clause-counts : goal.returns-clause-counts
returns-clause-counts c =
    let p = parsed_point c.args.line.now in
    let none : None ≡ get_by_text c.args.measurements.now p.measurement = grind (arith, text_keys) in (
      c.add-2.new.self,
      subst (λ (o : Option MeasurementCounts). CountsAfter c.args.is_new p o c.add-2.new.self) none
          (c.none-counts.result, c.none-counts.ensures, c.in_ok-add-2.ensures.counts),
      λ q. grind (arith, text_keys),
    )

-- if a line of a known measurement is not counted, each measurement has the numbers that it had
pub returns-in_err-add-clause-kept : goal.returns-in_err-add-clause-kept
returns-in_err-add-clause-kept c =
    let m = (parsed_point c.args.line.now).measurement in
    let found : Some c.in-Some.counts.now ≡ get_by_text c.args.measurements.now m = grind (arith, text_keys) in
    at_err c.from_residual.result (one_set c.args.measurements.now (c.get_mut.follows.lender c.add.new.self) m c.in-Some.counts.now c.add.new.self
    (sym found) (λ q. grind (arith, text_keys)) c.in_err-add.ensures.kept.0 c.in_err-add.ensures.kept.1)
