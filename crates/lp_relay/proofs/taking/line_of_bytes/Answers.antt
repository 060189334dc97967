use Rattle.std.proofs.Common.{refl}
use Rattle.lp_faults.specs.Relaying.{line_of}
use Rattle.lp_relay.proofs.taking.line_of_bytes.Goals as goal

pub returns-then-not-settings : goal.returns-then-not-settings
unfolding line_of
returns-then-not-settings c = rw c.if-not-settings.true refl

pub returns : goal.returns
unfolding line_of
returns c = rw c.if-not-settings.false c.bytes_without_return.ensures
