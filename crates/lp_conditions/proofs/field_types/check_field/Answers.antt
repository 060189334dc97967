use Rattle.std.proofs.Common.{arith}
use Rattle.std.proofs.lemmas.Map.Text.{text_keys}
use Rattle.lp_conditions.proofs.FieldTypeLemmas.{field_new}
use Rattle.lp_conditions.proofs.field_types.check_field.Goals as goal

pub returns : goal.returns
returns c =
    field_new c.args.most c.args.known.now c.args.count c.args.fresh.now c.insert.new.self c.args.number _ (grind arith) (grind (arith, c.len.ensures.len))
    (λ q. grind (arith, text_keys)) (grind (arith, text_keys))
