-- The items of closed lines, and of lines that are written after them.
use Rattle.std.specs.Prelude.{◌≡◌, ℕ, true, List, [], ◌∷◌, ◌++◌, map, Result, Ok, MatchResult}
use Rattle.std.specs.List.{AllByRecursion, list_all}
use Rattle.lp_format.specs.format.{Dialect, Fault, is_admitted_in, newline, Point, IsPoint, built_all, IsCutPiece, HasItems, Pieces.Pieces}
use Rattle.lp_build.specs.declared.builder.{BeforeMeasurement.BeforeMeasurement, LineProtocolBuilder.LineProtocolBuilder}
use Rattle.lp_build.specs.code.Built.{buffer_of}
use Rattle.influxdb_line_protocol.specs.declared.builder.admitted.Unwritten.{Unwritten}
use Rattle.influxdb_line_protocol.specs.code.WritingAdmitted.{builder_in}

-- Closed lines with these items: whatever text comes after the lines, the items are these items followed by the items of that text alone.
abbrev pub AreClosedLines : Dialect → List ℕ → List (Result Point Fault) → Type 0
AreClosedLines dialect lines items =
    (t : List ℕ) (others : List (Result Point Fault)) → HasItems dialect t others → HasItems dialect (lines ++ t) (items ++ others)

-- Appending added these points: if the text before was closed lines, the text after it is closed lines with the old items and then exactly
-- these points. This holds in each dialect in which all these points are admitted.
abbrev pub AddsPoints : List ℕ → List Point → List ℕ → Type 0
AddsPoints before points after =
    (dialect : Dialect) (items : List (Result Point Fault)) → list_all (is_admitted_in dialect) points ≡ true
    → AreClosedLines dialect before items → AreClosedLines dialect after (items ++ map Ok points)

-- A call that succeeds adds this point, which is admitted, and nothing else. A call that fails leaves the bytes of the buffer as they were.
abbrev pub AddsPointOrNothing : {B : Type 0} → Dialect → (B → List ℕ) → Point → B
    → Result (LineProtocolBuilder B BeforeMeasurement) (Unwritten B) → Type 0
AddsPointOrNothing dialect bytes p before result =
    MatchResult result (λ longer. (is_admitted_in dialect p ≡ true) × AddsPoints (bytes before) (p ∷ []) (bytes (buffer_of longer)))
    (λ unwritten. bytes (buffer_of (builder_in unwritten)) ≡ bytes before)

-- Appending the lines that are built for points adds these points and nothing else, in each dialect in which all of them are admitted.
abbrev pub AdmittedLinesAddPoints : Type 0
AdmittedLinesAddPoints =
    (before : List ℕ) (points : List Point) → AllByRecursion IsPoint points → AddsPoints before points (before ++ built_all points)

-- An empty text is closed lines without items.
abbrev pub EmptyTextIsClosed : Type 0
EmptyTextIsClosed = (dialect : Dialect) → AreClosedLines dialect [] []

-- A text followed by a newline is closed lines if this newline may end the last piece of the text.
abbrev pub EndedLinesAreClosed : Type 0
EndedLinesAreClosed =
    (dialect : Dialect) (text : List ℕ) (before : List (List ℕ)) (piece : List ℕ) (items : List (Result Point Fault))
    → Pieces dialect text (before ++ piece ∷ []) → IsCutPiece dialect piece → HasItems dialect text items
    → AreClosedLines dialect (text ++ newline ∷ []) items
