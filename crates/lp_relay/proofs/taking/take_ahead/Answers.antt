use Rattle.std.proofs.Common.{Err, refl}
use Rattle.lp_conditions.specs.FieldTypes.{types_of}
use Rattle.lp_relay.specs.RelaySteps.{unwritten_of}
use Rattle.lp_relay.proofs.RefusalLemmas.{takes_too_long}
use Rattle.lp_relay.proofs.ToldLemmas.{counts_ahead}
use Rattle.lp_relay.proofs.taking.take_ahead.Goals as goal

pub returns-clause-taken : goal.returns-clause-taken
returns-clause-taken c =
    let s = c.args.settings.now in
    let before = c.args.pending.now.so_far.batch.items in
    let types = types_of c.args.pending.now.types in
    let one = takes_too_long s types c.args.fault c.kept_of.result before c.kept_of.ensures in
    let done = c.in_ok-refuse.ensures in
    counts_ahead s (unwritten_of c.args.pending.now) (unwritten_of c.refuse.new.pending) (Err c.args.fault)
    (done.taken one.0.0 types one.0.1 refl) done.counted c.refuse.ensures.place
