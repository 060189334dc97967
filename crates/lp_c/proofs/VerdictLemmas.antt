-- Rows that tell their verdicts.
use Rattle.std.proofs.Common.{◌≡◌, ◌∙◌, ℕ, ◌<◌, true, List, length, drop, get_or, refl, subst, sym}
use Rattle.std.proofs.lemmas.{Bool.false_from_ne_true, List.drop_more}
use Rattle.lp_format.specs.{code.Light.is_light, format.Strict, format.trimmed}
use Rattle.lp_portable.specs.declared.limits.Limits as portable
use Rattle.lp_c.specs.Verdicts.{IsVerdictBy, MayTakeMemory, TellsVerdict, limits_of, piece_there}
use Rattle.lp_offsets.specs.declared.offsets.OffsetRow.{OffsetRow}
use Rattle.lp_c.specs.declared.verdicts.Limits.{Limits}

-- a row that tells this number
pub tells_bits : (limits : Limits) (most : portable.Limits) (text : List ℕ) (row : OffsetRow) (n : ℕ) → most ≡ limits_of limits
    → IsVerdictBy most text row n → TellsVerdict limits text row (record row { verdict = n })
tells_bits limits most text row n same is =
    record { verdict = subst (λ (m : portable.Limits). IsVerdictBy m text row n) same is; others = refl }

-- the next row takes memory, if its piece is no light one
pub takes_memory : (text : List ℕ) (old rows : List OffsetRow) (i : ℕ) (d : OffsetRow) → i < length rows → drop i rows ≡ drop i old
    → ¬ (is_light Strict (trimmed (piece_there text (get_or rows i d))) ≡ true) → MayTakeMemory text (drop i old)
takes_memory text old rows i d here same heavy =
    subst (MayTakeMemory text) (sym (drop_more rows i d here) ∙ same) (false_from_ne_true _ heavy)
