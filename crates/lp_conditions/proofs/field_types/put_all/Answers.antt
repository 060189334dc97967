use Rattle.std.proofs.Common.{arith, string_bytes, ◌∙◌}
use Rattle.std.specs.BTreeMap.{get_by_text}
use Rattle.std.proofs.lemmas.Map.Text.{text_keys}
use Rattle.lp_conditions.proofs.FieldTypeLemmas.{pop_put}
use Rattle.lp_conditions.proofs.field_types.put_all.Goals as goal

pub loop-key-preserved : goal.loop-key-preserved
loop-key-preserved c q =
    pop_put (get_by_text c.loop-key.left) (get_by_text c.pop_first.new.self) (get_by_text c.loop-key.known) (get_by_text c.insert.new.self)
    (string_bytes c.in-Some.key) q c.in-Some.of (grind (arith, text_keys)) (grind (arith, text_keys)) (grind (arith, text_keys))
    ∙ c.loop-key.invariant q
