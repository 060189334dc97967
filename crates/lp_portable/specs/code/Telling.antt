-- The result for a text: that the text is no line, or the clauses that it breaks.
use Rattle.std.specs.Prelude.{◌≡◌, ◌<◌, ℕ, List, length, Bool, true, false, Option, Some, None, Ok, Err}
use Rattle.lp_format.specs.format.{Fault, IsCutPiece, Line, Strict, answer, trimmed}
use Rattle.lp_lines.specs.{code.Parsed.line_read, declared.parsed.ParsedLine.ParsedLine}
use Rattle.lp_portable.specs.declared.{broken.Broken.Broken, limits.Limits.Limits}
use Rattle.lp_portable.specs.{code.Clauses.Breaks, format.Portable.IsOneLine}

-- The text is no line.
abbrev pub IsNoLine : List ℕ → Type 0
IsNoLine text = (line : Line) → ¬ IsOneLine text line

-- A newline ends the text as one piece, and this is the trimmed text.
pub record IsTrimmedPiece (text line : List ℕ) : Type 0 where
  pub piece : IsCutPiece Strict text
  pub trimmed : line ≡ trimmed text
  pub some : 0 < length line

-- The trimmed text is read as this line if the flag is true, and has a fault if the flag is false.
abbrev pub TellsRead : List ℕ → ParsedLine → Bool → Type 0
TellsRead line read true = answer Strict line ≡ Ok (line_read read)
TellsRead line read false = (fault : Fault) × (answer Strict line ≡ Err fault)

-- Without a result, the text is no line. With a result, the text is a line that breaks these clauses.
abbrev pub TellsBroken : Limits → List ℕ → Option Broken → Type 0
TellsBroken limits text None = IsNoLine text
TellsBroken limits text (Some broken) = Breaks limits text broken
