use Rattle.std.proofs.Common.{arith}
use Rattle.lp_format.proofs.lemmas.values.ValueLemmas.{test_from_fits}
use Rattle.lp_relay.proofs.TimedPieces.{becomes_copy}
use Rattle.lp_relay.proofs.taking.take_at.Goals as goal

pub take_line-taken-requires-clause-timed : goal.take_line-taken-requires-clause-timed
take_line-taken-requires-clause-timed c =
    becomes_copy c.args.settings.now c.args.line.whole.now c.args.line.piece.now c.args.line.text.now c.as_str-piece.result.now
    c.trimmed-text.result.now c.args.came c.args.time c.requires.line c.requires.becomes (test_from_fits c.args.time c.ranges.time)
    (grind (arith, c.as_str-piece.ensures.value, c.in_ok-copy.ensures.value)) (grind (arith, c.as_str-piece.ensures.value, c.in_ok-copy.ensures.front))
    c.trimmed-text.ensures
