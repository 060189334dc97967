use Rattle.std.proofs.Common.{subst}
use Rattle.lp_rebuild.specs.Running.{reader_told}
use Rattle.lp_relay.specs.Relays.{Relays}
use Rattle.lp_relay.proofs.relaying.relay.Goals as goal

pub returns : goal.returns
returns g c =
    subst
    (λ t. Relays c.args.settings t c.relay_on.result (reader_told g.R.Source.bytes g.R.Source.failures c.args.reader.now)
    (reader_told g.R.Source.bytes g.R.Source.failures c.relay_on.new.reader) (g.O.ThreeWriters.told c.args.outputs.now)
    (g.O.ThreeWriters.told c.relay_on.new.outputs)) c.none-types.ensures c.relay_on.ensures.relays
