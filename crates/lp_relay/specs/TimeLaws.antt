-- What a line with another time is read as: the statements of the law.
use Rattle.std.specs.Prelude.{◌≡◌, ℕ, ℤ, true, List, [], ◌∷◌, ◌++◌, Result, Ok}
use Rattle.influxdb_line_protocol.specs.format.{Bytes.newline, Dialects.Dialect, Items.HasAnswers, Items.answers_of_piece, Lines.Line, Lines.answer}
use Rattle.influxdb_line_protocol.specs.format.{Pieces.IsCutPiece, Readings.Fault, Values.fits_i64}
use Rattle.lp_conditions.specs.LineTimes.{line_at, piece_at, text_at}

-- The text of a line with another time, in range, is read as that line with this time: all else of the line stays.
abbrev pub TimesAreReadBack : Type 0
TimesAreReadBack =
    (dialect : Dialect) (text : List ℕ) (line : Line) (time : ℤ) → answer dialect text ≡ Ok line → fits_i64 time ≡ true
    → answer dialect (text_at line.timestamp time text) ≡ Ok (line_at time line)

-- If a newline ends the piece of a line, a newline ends its piece with another time too: both, before any text, are answered with the line with
-- this time, and then as that text alone.
abbrev pub TimedPiecesAreReadBack : Type 0
TimedPiecesAreReadBack =
    (dialect : Dialect) (piece : List ℕ) (line : Line) (time : ℤ) (t : List ℕ) (answers : List (Result Line Fault))
    → IsCutPiece dialect piece → answers_of_piece dialect piece ≡ Ok line ∷ [] → fits_i64 time ≡ true → HasAnswers dialect t answers
    → HasAnswers dialect (piece_at line.timestamp time piece ++ newline ∷ t) (Ok (line_at time line) ∷ answers)
