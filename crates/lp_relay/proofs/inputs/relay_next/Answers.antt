use Rattle.std.proofs.Common.{arith}
use Rattle.lp_relay.proofs.InputLemmas.{not_opened}
use Rattle.lp_relay.proofs.inputs.relay_next.Goals as goal

pub returns-then-is_err : goal.returns-then-is_err
returns-then-is_err g c =
    not_opened c.pieces_join.ensures.some c.args.settings _ _ _ _ _
    (grind (arith, c.open.ensures.counts, c.is_err.ensures.value, c.if-is_err.true))
