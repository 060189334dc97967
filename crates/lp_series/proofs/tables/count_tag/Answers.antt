use Rattle.std.proofs.Common.{arith}
use Rattle.std.proofs.lemmas.Map.Text.{text_keys}
use Rattle.lp_series.proofs.tables.count_tag.Goals as goal

-- a value more of a known tag
pub returns-in-Some : goal.returns-in-Some
returns-in-Some c = record { keys = λ key. grind (arith, text_keys); values = λ key value. grind (arith, text_keys) }

-- the first value of a tag
pub returns : goal.returns
returns c = record { keys = λ key. grind (arith, text_keys); values = λ key value. grind (arith, text_keys) }
