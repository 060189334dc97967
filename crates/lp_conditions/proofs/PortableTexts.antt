-- What is told of bytes that are text, or are not.
use Rattle.std.proofs.Common.{◌≡◌, ℕ, List, ap, refl, inl, inr}
use Rattle.std.specs.Str.{IsUtf8, is_utf8}
use Rattle.std.proofs.lemmas.Bool.{cases_Bool}
use Rattle.std.proofs.lemmas.Str.{IsUtf8-from_is_utf8, is_utf8-from_IsUtf8}
use Rattle.influxdb_line_protocol.specs.types.Verdict.TheVariants as told
use Rattle.influxdb_line_protocol.specs.code.Verdicts.{verdict_of}
use Rattle.lp_conditions.specs.declared.portable.Portable.{Portable}
use Rattle.lp_conditions.specs.Portables.{told_of_bytes}

-- of a text the verdict is told
pub text_told : (p : Portable) (bytes text : List ℕ) → text ≡ bytes → IsUtf8 bytes → verdict_of p.to p.limits text ≡ told_of_bytes p bytes
text_told p bytes text same u = rw (is_utf8-from_IsUtf8 bytes u) (ap (verdict_of p.to p.limits) same)

-- of other bytes, that they are no line
pub no_text_told : (p : Portable) (bytes : List ℕ) → (¬ IsUtf8 bytes) → told.NoLine ≡ told_of_bytes p bytes
no_text_told p bytes bad = elim (cases_Bool (is_utf8 bytes)) [
  | inl good ↦ absurd (bad (IsUtf8-from_is_utf8 bytes good))
  | inr not ↦ rw not refl
]
