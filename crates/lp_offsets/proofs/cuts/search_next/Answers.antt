use Rattle.std.proofs.Common.{arith}
use Rattle.lp_offsets.proofs.CutLemmas.{goes_on}
use Rattle.lp_offsets.proofs.cuts.search_next.Goals as goal

pub returns-in-Err-clause-finds : goal.returns-in-Err-clause-finds
returns-in-Err-clause-finds c = λ _ before come.
    goes_on c.args.cuts.now c.on_track.result before c.args.text.now c.in-Err.track c.in-Some.end (omega (arith, c.in-Some.ensures))
    c.on_track.ensures.rules c.on_track.ensures.names.0 c.on_track.ensures.names.1 come (c.in-Err.ensures.finds before come)
