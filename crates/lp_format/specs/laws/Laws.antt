-- The statements of the laws: how the definitions depend on one another.
use Rattle.std.specs.Prelude.{◌≡◌, ◌≢◌, ◌↔◌, ℕ, ◌<◌, true, false, List, [], ◌∷◌, ◌++◌, length, map, flat_map, slice_set, Result, Ok}
use Rattle.std.specs.Prelude.{Err, All, Contains, IsUtf8}
use Rattle.std.specs.List.{AllByRecursion, list_all, join_with_byte}
use Rattle.lp_format.specs.format.{Dialect, Strict, NewlineDelimited, newline, Fault, ends_with_backslash, Point, IsPoint, built_all}
use Rattle.lp_format.specs.format.{is_admitted_in, is_admitted_point, is_value_on_one_line, HasNoNewline, answers_of_piece}
use Rattle.lp_format.specs.format.{IsCutPiece, begins_comment, Line, point_of, answer, NameKind, HasAnswers, HasItems}
use Rattle.lp_format.specs.format.Pieces.{Pieces}
use Rattle.lp_format.specs.laws.NamesOfLines.{names_of, IsParsedName, IsOneLineIn, IsReadableIn, EndsItsFields}

-- a point that is admitted in a dialect
pub record IsAdmittedIn (dialect : Dialect) (p : Point) : Type 0 where
  pub is_point : IsPoint p
  pub admitted : is_admitted_in dialect p ≡ true

-- Batches of admitted points read back. If the builder writes points that are admitted in a dialect, and any text follows, then the first
-- answers are lines with these points, and the answers after them are the answers for the text alone.
abbrev pub AdmittedBatchesReadBack : Type 0
AdmittedBatchesReadBack =
    (dialect : Dialect) (points : List Point) (t : List ℕ) (answers : List (Result Line Fault))
    → AllByRecursion (IsAdmittedIn dialect) points → HasAnswers dialect t answers
    → (lines : List Line) × (map point_of lines ≡ points)
    × HasAnswers dialect (built_all points ++ t) (map Ok lines ++ answers)

-- A batch with a point that is not admitted does not read back: the items of the batch and a text after it are not the points of the batch and
-- then the items of the text.
abbrev pub OtherBatchesDoNotReadBack : Type 0
OtherBatchesDoNotReadBack =
    (dialect : Dialect) (points : List Point) (t : List ℕ) (items others : List (Result Point Fault))
    → AllByRecursion IsPoint points → list_all (is_admitted_in dialect) points ≡ false
    → HasItems dialect (built_all points ++ t) items → HasItems dialect t others → items ≢ map Ok points ++ others

-- No item of a text is a point with a name that no line can have. In the newline-delimited dialect, no item is a point whose line holds a
-- newline.
abbrev pub ItemsHaveReadableNames : Type 0
ItemsHaveReadableNames =
    (dialect : Dialect) (text : List ℕ) (items : List (Result Point Fault)) (p : Point)
    → HasItems dialect text items → Contains items (Ok p) → IsReadableIn dialect p

-- If the builder writes admitted points, and then a point whose names are not all admitted though lines can have each of them, the answer
-- after the admitted points is `EndsWithBackslash`, whatever follows.
abbrev pub OtherPointsEndWithBackslash : Type 0
OtherPointsEndWithBackslash =
    (dialect : Dialect) (before : List Point) (p : Point) (after : List Point) (t : List ℕ) (answers : List (Result Line Fault))
    → AllByRecursion (IsAdmittedIn dialect) before → IsPoint p → is_admitted_point p ≡ false → IsReadableIn dialect p
    → HasAnswers dialect (built_all (before ++ p ∷ after) ++ t) answers
    → (lines : List Line) × (others : List (Result Line Fault)) × (map point_of lines ≡ before)
    × (answers ≡ map Ok lines ++ Err ends_with_backslash ∷ others)

-- Each name of a line that is answered for a text is a name that a line can have.
abbrev pub NamesAreParsed : Type 0
NamesAreParsed =
    (dialect : Dialect) (text : List ℕ) (answers : List (Result Line Fault)) (line : Line) (kind : NameKind) (n : List ℕ)
    → HasAnswers dialect text answers → Contains answers (Ok line) → Contains (names_of kind (point_of line)) n
    → IsParsedName kind n

-- Each name that a line can have, and that is one line in the dialect, is a name of its kind in some line, and the text of this line is UTF-8
-- if the name is.
abbrev pub ParsedNamesAreInLines : Type 0
ParsedNamesAreInLines =
    (dialect : Dialect) (kind : NameKind) (n : List ℕ) → IsParsedName kind n → IsOneLineIn dialect n
    → (text : List ℕ) × (line : Line) × HasAnswers dialect text (Ok line ∷ []) × Contains (names_of kind (point_of line)) n
    × (IsUtf8 n → IsUtf8 text)

-- In the strict dialect, the fields of a line are followed by nothing or by a space.
abbrev pub StrictFieldsEnd : Type 0
StrictFieldsEnd = (text : List ℕ) (line : Line) → answer Strict text ≡ Ok line → EndsItsFields text line

-- Each text has pieces.
abbrev pub PiecesExist : Type 0
PiecesExist = (dialect : Dialect) (text : List ℕ) → (pieces : List (List ℕ)) × Pieces dialect text pieces

-- A text has at most one list of pieces.
abbrev pub PiecesAreUnique : Type 0
PiecesAreUnique =
    (dialect : Dialect) (text : List ℕ) (pieces others : List (List ℕ))
    → Pieces dialect text pieces → Pieces dialect text others → pieces ≡ others

-- The pieces of a text, joined by newlines, are the text.
abbrev pub PiecesAreTheText : Type 0
PiecesAreTheText =
    (dialect : Dialect) (text : List ℕ) (pieces : List (List ℕ))
    → Pieces dialect text pieces → join_with_byte newline pieces ≡ text

-- The pieces of two texts with a newline between them are the pieces of the first and then of the second exactly if a newline can end the last
-- piece of the first.
abbrev pub PiecesJoin : Type 0
PiecesJoin =
    (dialect : Dialect) (u t : List ℕ) (before : List (List ℕ)) (piece : List ℕ) (after : List (List ℕ))
    → Pieces dialect u (before ++ piece ∷ []) → Pieces dialect t after
    → (Pieces dialect (u ++ newline ∷ t) (before ++ piece ∷ after) ↔ IsCutPiece dialect piece)

-- If a newline can end the last piece of a first text, the answers for two texts with a newline between them are the answers for the first and
-- then for the second.
abbrev pub AnswersJoin : Type 0
AnswersJoin =
    (dialect : Dialect) (u t : List ℕ) (before : List (List ℕ)) (piece : List ℕ) (first others : List (Result Line Fault))
    → Pieces dialect u (before ++ piece ∷ []) → IsCutPiece dialect piece
    → HasAnswers dialect u first → HasAnswers dialect t others → HasAnswers dialect (u ++ newline ∷ t) (first ++ others)

-- In the strict dialect, other bytes after the `#` of a comment change no other piece and no answer.
abbrev pub CommentTextIsIgnored : Type 0
CommentTextIsIgnored =
    (front old new : List ℕ) (before after : List (List ℕ)) (text : List ℕ) (answers : List (Result Line Fault))
    → begins_comment front ≡ true → All (λ b. b ≢ newline) new → Pieces Strict text (before ++ (front ++ old) ∷ after)
    → HasAnswers Strict text answers
    → (other : List ℕ) × Pieces Strict other (before ++ (front ++ new) ∷ after) × HasAnswers Strict other answers

-- In the newline-delimited dialect, a line is read as in the strict dialect.
abbrev pub LinesAreReadStrictly : Type 0
LinesAreReadStrictly = (text : List ℕ) → answer NewlineDelimited text ≡ answer Strict text

-- In the newline-delimited dialect, the pieces of a text are the texts between its newlines.
abbrev pub LinesArePieces : Type 0
LinesArePieces =
    (line : List ℕ) (lines : List (List ℕ)) → AllByRecursion HasNoNewline (line ∷ lines)
    → Pieces NewlineDelimited (join_with_byte newline (line ∷ lines)) (line ∷ lines)

-- In the newline-delimited dialect, the pieces of two texts with a newline between them are the pieces of the first and then of the second,
-- also if the first ends within a string.
abbrev pub LinesJoin : Type 0
LinesJoin =
    (u t : List ℕ) (lines others : List (List ℕ)) → Pieces NewlineDelimited u lines → Pieces NewlineDelimited t others
    → Pieces NewlineDelimited (u ++ newline ∷ t) (lines ++ others)

-- the answers for each line of a newline-delimited text, by the number of the line: one answer, or none if the line holds only blanks and a
-- comment
abbrev pub HasAnswersByLine : List ℕ → List (List (Result Line Fault)) → Type 0
HasAnswersByLine text answers =
    (lines : List (List ℕ)) × Pieces NewlineDelimited text lines × (answers ≡ map (answers_of_piece NewlineDelimited) lines)

-- In the newline-delimited dialect, the answers for a text are the answers for its lines, each read alone.
abbrev pub EachLineIsReadAlone : Type 0
EachLineIsReadAlone =
    (text : List ℕ) (answers : List (List (Result Line Fault)))
    → HasAnswersByLine text answers → HasAnswers NewlineDelimited text (flat_map (λ one. one) answers)

-- In the newline-delimited dialect, if one line is replaced by any bytes without a newline, the answer of every other line stays.
abbrev pub OtherLinesStay : Type 0
OtherLinesStay =
    (text : List ℕ) (lines : List (List ℕ)) (n : ℕ) (line : List ℕ) (answers : List (List (Result Line Fault)))
    → Pieces NewlineDelimited text lines → n < length lines → HasNoNewline line → HasAnswersByLine text answers
    → HasAnswersByLine (join_with_byte newline (slice_set lines n line)) (slice_set answers n (answers_of_piece NewlineDelimited line))

-- In the newline-delimited dialect, no string of a line that is answered holds a newline.
abbrev pub StringsAreOnOneLine : Type 0
StringsAreOnOneLine =
    (text : List ℕ) (answers : List (Result Line Fault)) (line : Line)
    → HasAnswers NewlineDelimited text answers → Contains answers (Ok line)
    → list_all (λ f. is_value_on_one_line f.value) (point_of line).fields ≡ true
