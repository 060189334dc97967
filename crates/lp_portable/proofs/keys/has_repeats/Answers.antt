use Rattle.std.proofs.Common.{◌∙◌, sym}
use Rattle.lp_portable.specs.code.Walks.{keys_in}
use Rattle.lp_portable.proofs.Repeats.{risen_once}
use Rattle.lp_portable.proofs.keys.has_repeats.Goals as goal

pub returns-then-keys_rise-clause-value : goal.returns-then-keys_rise-clause-value
returns-then-keys_rise-clause-value g c = sym (risen_once (keys_in c.args.items.now) (sym c.keys_rise.ensures ∙ c.if-keys_rise.true))
