-- Texts that lie in bytes.
use Rattle.std.specs.Prelude.{◌≡◌, ◌+◌, ◌≤◌, List, ℕ, Option, Some, None, IsUtf8, drop, length, take}
use Rattle.std.specs.Borrow.{Bor}
use Rattle.lp_offsets.specs.declared.placed.Span.{Span}

-- the text that these bytes are, if they are UTF-8
abbrev pub IsTextOf : List ℕ → Option (Bor (List ℕ)) → Type 0
IsTextOf bytes None = ¬ IsUtf8 bytes
IsTextOf bytes (Some text) = IsUtf8 bytes × (text.now ≡ bytes)

-- a text lies at this place of the bytes
pub record IsSpanIn (bytes : List ℕ) (span : Span) : Type 0 where
  pub fits : span.at + span.len ≤ length bytes
  pub utf8 : IsUtf8 (take span.len (drop span.at bytes))
