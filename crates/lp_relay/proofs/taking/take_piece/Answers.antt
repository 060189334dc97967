use Rattle.lp_relay.specs.RelaySteps.{unwritten_of}
use Rattle.lp_relay.proofs.ToldLemmas.{place_taken}
use Rattle.lp_relay.proofs.taking.take_piece.Goals as goal

pub returns-clause-start : goal.returns-clause-start
returns-clause-start c =
    place_taken c.args.settings.now _ (unwritten_of c.take_item.new.pending) _ _ _ c.in_ok-take_item.ensures.taken c.in_ok-next.ensures
    c.in_ok-end.ensures
