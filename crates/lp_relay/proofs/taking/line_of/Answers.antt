use Rattle.std.proofs.Common.{refl}
use Rattle.lp_faults.specs.Relaying.{line_of}
use Rattle.lp_relay.proofs.taking.line_of.Goals as goal

pub returns-then-settings : goal.returns-then-settings
unfolding line_of
returns-then-settings c = rw c.if-settings.true c.without_return.ensures

pub returns-else-settings : goal.returns-else-settings
unfolding line_of
returns-else-settings c = rw c.if-settings.false refl
