-- The points of lines, and the lines that the builder writes again unchanged.
use Rattle.std.specs.Prelude.{◌≡◌, ℕ, List, [], ◌∷◌, ◌++◌, true, Ok}
use Rattle.lp_format.specs.format.{newline, Dialect, IsAsWritten, IsPoint, built, is_admitted_point, Line, point_of, answer}

-- Each line that is answered is a point: it has at least one field, numbers in range and literals for its floats.
abbrev pub LinesArePoints : Type 0
LinesArePoints = (dialect : Dialect) (text : List ℕ) (line : Line) → answer dialect text ≡ Ok line → IsPoint (point_of line)

-- all names of the line are admitted, and the builder writes this text and a newline for the point of the line
abbrev IsWrittenAs : List ℕ → Line → Type 0
IsWrittenAs text line = (is_admitted_point (point_of line) ≡ true) × (built (point_of line) ≡ text ++ newline ∷ [])

-- A text that is as written is answered, in each dialect, with a line for whose point the builder writes the text again.
abbrev pub WrittenLinesStay : Type 0
WrittenLinesStay = (dialect : Dialect) (text : List ℕ) → IsAsWritten text → (line : Line) × (answer dialect text ≡ Ok line) × IsWrittenAs text line

-- A text is as written if it is answered with a line for whose point the builder writes the text again.
abbrev pub LinesThatStayAreWritten : Type 0
LinesThatStayAreWritten = (dialect : Dialect) (text : List ℕ) (line : Line)
    → answer dialect text ≡ Ok line → IsWrittenAs text line → IsAsWritten text
