use Rattle.std.proofs.Common.{ℕ, ◌∙◌, ap, arith}
use Rattle.lp_scan.specs.code.Lanes.{first_set}
use Rattle.lp_split.specs.code.Stops.{is_stop}
use Rattle.lp_scan.proofs.lemmas.scan.BareMasks.{at_most_one, to_stop, to_next}
use Rattle.lp_split.proofs.split.stop_in.Goals as goal

pub returns-then-run-lt-WIDE : goal.returns-then-run-lt-WIDE
returns-then-run-lt-WIDE c =
    let p = c.requires.passed in
    let mask = c.bare.ensures (is_stop c.args.stops) c.args.text.now c.args.at (omega arith) p.is_bare c.requires.given c.stops_in.ensures in
    let stop = to_stop _ _ c.args.at c.requires.room p _ (c.first_set-run.ensures ∙ ap (λ (m : ℕ). first_set m 64) mask)
    c.if-run-lt-WIDE.true in
    record { within = omega arith; passed = stop.0; stops = λ _. stop.1 }

pub returns : goal.returns
returns c =
    let p = c.requires.passed in
    let mask = c.bare.ensures (is_stop c.args.stops) c.args.text.now c.args.at (omega arith) p.is_bare c.requires.given c.stops_in.ensures in
    let last = c.escapes_next.ensures c.args.text.now c.args.at (omega arith) p.is_bare c.requires.given in
    record {
      within = omega (arith, at_most_one c.args.text.now c.args.at c.requires.room c.escapes_next.result last);
      passed = to_next _ _ c.args.at c.requires.room p _ (c.first_set-run.ensures ∙ ap (λ (m : ℕ). first_set m 64) mask) _
          c.if-run-lt-WIDE.false last;
      stops = λ short. absurd (omega arith);
    }
