use Rattle.lp_series.proofs.FieldLemmas.{set_put}
use Rattle.lp_series.proofs.tables.put_value.Goals as goal

-- the value was put there
pub returns : goal.returns
returns c = set_put c.args.values.now c.insert.new.self c.in_ok-from_str.field-0 c.args.value.now c.in_ok-from_str.ensures.ok c.in_ok-insert.ensures.updates
