use Rattle.std.proofs.Common.{subst, sym}
use Rattle.std.proofs.lemmas.Result.{on_ok_weaker}
use Rattle.lp_relay.specs.Taking.{EndsPiece}
use Rattle.lp_relay.specs.RelaySteps.{unwritten_of}
use Rattle.lp_relay.proofs.ToldLemmas.{ends_refused}
use Rattle.lp_relay.proofs.taking.end_piece.Goals as goal

pub returns-in-Refused-clause-ends : goal.returns-in-Refused-clause-ends
returns-in-Refused-clause-ends c =
    let s = c.args.settings.now in
    let mid = unwritten_of c.args.pending.now in
    let new = unwritten_of c.refuse.new.pending in
    on_ok_weaker c.refuse.result
    (λ takes. subst (λ t. EndsPiece s c.args.piece t mid new) (sym c.in-Refused.is)
    (ends_refused s c.args.piece c.in-Refused.refusal mid new takes)) c.refuse.ensures.taken
