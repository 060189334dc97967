use Rattle.std.proofs.Common.{◌∙◌, ◌≡◌, ◌≤◌, ap, arith, length, sym, take}
use Rattle.influxdb_line_protocol.specs.code.SpelledParts.{spelled_text}
use Rattle.influxdb_line_protocol.specs.format.Readings.{Text}
use Rattle.lp_offsets.proofs.PlacedLemmas.{before_fits, shown_there}
use Rattle.lp_offsets.proofs.placed.place_text.Goals as goal

pub place_before-requires : goal.place_before-requires
place_before-requires c =
    let is = c.reads_as_spelled.ensures c.if-reads_as_spelled.true in
    let there = c.requires (ap (λ (t : Text). t.is_single) is) in
    let size = ap (λ (t : Text). length t.bytes) is in
    omega (
      arith,
      before_fits c.args.line.line.now (spelled_text c.args.spelled).bytes c.args.left there,
      size,
      ap length c.spelled.ensures,
      c.args.line.lies.begins,
      c.args.line.lies.small,
    )

pub returns-then-reads_as_spelled-clause-shows : goal.returns-then-reads_as_spelled-clause-shows
returns-then-reads_as_spelled-clause-shows c = λ enough r same.
    let line = c.args.line in
    let spelled = c.args.spelled in
    let is = c.reads_as_spelled.ensures c.if-reads_as_spelled.true in
    let there = c.requires (ap (λ (t : Text). t.is_single) is) in
    rw c.place_before.ensures.copied
    (shown_there line.text.now line.line.now (spelled_text spelled).bytes line.end c.args.left _ _ _ line.lies there
    (ap length c.spelled.ensures ∙ ap (λ (t : Text). length t.bytes) (sym is)) c.place_before.ensures.at c.place_before.ensures.len)

pub place_before-requires-in-Some : goal.place_before-requires-in-Some
place_before-requires-in-Some c =
    let is = rw c.in-Some.is at c.escape_of.ensures in
    let there = c.requires (ap (λ (t : Text). t.is_single) (sym is)) in
    let line = c.args.line in
    omega (
      arith,
      before_fits line.line.now (spelled_text c.args.spelled).bytes c.args.left there,
      ap (λ (t : Text). length t.bytes) is,
      line.lies.begins,
      line.lies.small,
    )

pub returns-in-Some-clause-shows : goal.returns-in-Some-clause-shows
returns-in-Some-clause-shows c = λ enough r same.
    let line = c.args.line in
    let is = rw c.in-Some.is at c.escape_of.ensures in
    let there = c.requires (ap (λ (t : Text). t.is_single) (sym is)) in
    rw c.place_before-in-Some.ensures.copied
    (shown_there line.text.now line.line.now (spelled_text c.args.spelled).bytes line.end c.args.left (length c.in-Some.shown.now) _ _
    line.lies there (ap (λ (t : Text). length t.bytes) is) c.place_before-in-Some.ensures.at c.place_before-in-Some.ensures.len)

pub returns-clause-grows : goal.returns-clause-grows
returns-clause-grows c =
    let put = c.put_copy-all.ensures.grows in
    record { size = put.size; more = omega (arith, put.more, c.place_copied.ensures.more); kept = put.kept }

pub returns-clause-takes : goal.returns-clause-takes
returns-clause-takes c = λ fits.
    let there = c.place_copied.ensures.fits fits in
    let takes = c.put_copy-all.ensures.takes (omega (arith, fits, there.0)) in
    rw there.3 (omega (arith, takes, there.0, there.2))

pub returns-clause-shows : goal.returns-clause-shows
returns-clause-shows c = λ enough r same.
    let there = c.place_copied.ensures.fits enough in
    let fits : c.put_copy-all.result ≤ length c.put_copy-all.new.room = omega (arith, enough, there.0) in
    let takes = c.put_copy-all.ensures.takes fits in
    let size : c.place_copied.result.0.span.len ≡ length (spelled_text c.args.spelled).bytes = omega (arith, takes, there.2) in
    rw (there.3, there.1, size) (c.put_copy-all.ensures.shows fits r (ap (λ n. take n r) (sym there.0) ∙ (same
    ∙ ap (λ n. take n c.put_copy-all.new.room) there.0)))
