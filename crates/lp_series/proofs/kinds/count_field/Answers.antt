use Rattle.std.proofs.Common.{arith}
use Rattle.std.proofs.lemmas.Map.Text.{text_keys}
use Rattle.lp_series.proofs.kinds.count_field.Goals as goal

-- the kinds of a known field have one more
pub returns-in-Some : goal.returns-in-Some
returns-in-Some c q = grind (arith, text_keys)

-- a new field has its first kind
pub returns : goal.returns
returns c q = grind (arith, text_keys)
