use Rattle.std.proofs.Common.{false, true, subst, sym}
use Rattle.std.proofs.lemmas.Result.{on_ok_weaker}
use Rattle.lp_faults.specs.Refusals.{given_of}
use Rattle.lp_relay.specs.RelaySteps.{TakesBy, unwritten_of}
use Rattle.lp_relay.proofs.RelayLemmas.{on_ok_pair}
use Rattle.lp_relay.proofs.ToldLemmas.{step_same}
use Rattle.lp_relay.proofs.taking.take_given.Goals as goal

pub returns-then-pending-clause-taken : goal.returns-then-pending-clause-taken
returns-then-pending-clause-taken c =
    let s = c.args.settings.now in
    let old = unwritten_of c.args.pending.now in
    on_ok_weaker c.end_ahead.result
    (λ ends.
    subst (λ b. TakesBy b s old c.args.given (unwritten_of c.end_ahead.new.pending)) (sym c.if-pending.true)
    (step_same true s old _ (given_of c.piece_of-piece.result) c.args.given c.piece_of-piece.ensures.0 ends))
    c.end_ahead.ensures

pub returns-clause-taken : goal.returns-clause-taken
returns-clause-taken c =
    let s = c.args.settings.now in
    let old = unwritten_of c.args.pending.now in
    let taken = c.take_piece-taken in
    on_ok_weaker taken.result
    (λ takes.
    subst (λ b. TakesBy b s old c.args.given (unwritten_of taken.new.pending)) (sym c.if-pending.false)
    (step_same false s old _ (given_of c.piece_of-piece.result) c.args.given c.piece_of-piece.ensures.0 takes))
    (on_ok_pair _ _ taken.result taken.ensures.taken taken.ensures.start)
