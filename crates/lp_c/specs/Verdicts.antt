-- Which clauses of what is portable the lines of rows by offsets break, as rows tell them.
use Rattle.std.specs.Prelude.{◌≡◌, ◌⊎◌, ◌≤◌, ◌+◌, ℕ, List, [], ◌∷◌, length, take, drop, false, Option, Some, None, IsUtf8}
use Rattle.std.specs.Borrow.{Bor}
use Rattle.lp_format.specs.{code.Light.is_light, format.Strict, format.trimmed}
use Rattle.lp_portable.specs.declared.broken.Broken.{Broken}
use Rattle.lp_portable.specs.declared.limits.Limits as portable
use Rattle.lp_portable.specs.code.Bits.{bits_of}
use Rattle.lp_portable.specs.code.Clauses as code
use Rattle.lp_portable.specs.code.Clauses.{Breaks}
use Rattle.lp_portable.specs.format
use Rattle.lp_offsets.specs.Numbers.{answer_number}
use Rattle.lp_offsets.specs.declared.offsets.OffsetRow.{OffsetRow}
use Rattle.lp_c.specs.declared.verdicts.Limits.{Limits}
use Rattle.lp_offsets.specs.declared.enums.Answer.TheVariants as Answer

-- limits as the library takes them
abbrev pub limits_of : Limits → portable.Limits
limits_of limits = record { line = limits.line; tags = limits.tags; earliest = limits.earliest; latest = limits.latest }

-- the same as the format has them
abbrev pub format_limits : Limits → format.Limits
format_limits limits = code.limits_of (limits_of limits)

-- the bytes of the piece of a row
abbrev pub piece_there : List ℕ → OffsetRow → List ℕ
piece_there text row = take row.piece.len (drop row.piece.at text)

-- a row has a line, and the text has its piece at its place
pub record HasPiece (text : List ℕ) (row : OffsetRow) : Type 0 where
  pub answered : row.answer ≡ answer_number Answer.Line
  pub fits : row.piece.at + row.piece.len ≤ length text
  pub utf8 : IsUtf8 (piece_there text row)

-- the piece of a row, if it has one
abbrev pub IsPieceOf : List ℕ → OffsetRow → Option (Bor (List ℕ)) → Type 0
IsPieceOf text row None = ¬ HasPiece text row
IsPieceOf text row (Some piece) = HasPiece text row × (piece.now ≡ piece_there text row)

-- the piece of a row is one line for the strict reader, which breaks these clauses
pub record BreaksThere (limits : portable.Limits) (text : List ℕ) (row : OffsetRow) (broken : Broken) : Type 0 where
  pub piece : HasPiece text row
  pub breaks : Breaks limits (piece_there text row) broken

-- the bits of the clauses that the piece of a row breaks; or 1, if it is no line for the strict reader
abbrev pub IsVerdictBy : portable.Limits → List ℕ → OffsetRow → ℕ → Type 0
IsVerdictBy limits text row n =
    ((broken : Broken) × BreaksThere limits text row broken × (n ≡ bits_of broken))
    ⊎ (((broken : Broken) → ¬ BreaksThere limits text row broken) × (n ≡ 1))

-- the same with limits as a caller in C has them
abbrev pub IsVerdict : Limits → List ℕ → OffsetRow → ℕ → Type 0
IsVerdict limits = IsVerdictBy (limits_of limits)

-- telling the first of these rows may take memory: its piece is no light one
abbrev pub MayTakeMemory : List ℕ → List OffsetRow → Type 0
MayTakeMemory text [] = ⊥
MayTakeMemory text (row ∷ rows) = is_light Strict (trimmed (piece_there text row)) ≡ false

-- a row tells so of its piece, and is as it was else
pub record TellsVerdict (limits : Limits) (text : List ℕ) (before after : OffsetRow) : Type 0 where
  pub verdict : IsVerdict limits text before after.verdict
  pub others : after ≡ record before { verdict = after.verdict }
