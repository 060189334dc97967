-- Carried lines were read, and their points are admitted, so the batch reads back.
use Rattle.std.proofs.Common.{◌≡◌, ℕ, ◌<◌, ◌==◌, List, [], ◌∷◌, ◌++◌, length, map, Result, Ok, Err}
use Rattle.std.proofs.Common.{refl, sym, ap, subst, ◌∙◌, inl, inr, arith, true, Contains}
use Rattle.std.specs.Prelude.{IfOk}
use Rattle.std.specs.List.{flat_map, list_all, AllByRecursion}
use Rattle.std.proofs.lemmas.Bool.{and_from, and_parts, cases_Bool}
use Rattle.std.proofs.lemmas.List.Elements.{Contains-append_right}
use Rattle.std.proofs.lemmas.List.{length-map}
use Rattle.influxdb_line_protocol.specs.format.Dialects.{Dialect, Crate, Strict, NewlineDelimited}
use Rattle.influxdb_line_protocol.specs.types.Error.{Error}
use Rattle.influxdb_line_protocol.specs.types.ParsedLine.{ParsedLine}
use Rattle.influxdb_line_protocol.specs.format.Readings.{Fault}
use Rattle.influxdb_line_protocol.specs.format.Points.{IsPoint, Point, is_admitted_in, is_admitted_point, built_all}
use Rattle.influxdb_line_protocol.specs.format.Lines.{Line, point_of, answer, logical_field}
use Rattle.influxdb_line_protocol.specs.code.Parsed.{Answers, FillsLine, IsReadLine, field_of, line_read}
use Rattle.influxdb_line_protocol.specs.code.ReadInto.{item_in}
use Rattle.influxdb_line_protocol.specs.format.Trimming.{trimmed}
use Rattle.influxdb_line_protocol.specs.format.Items.{HasAnswers, answers_of, answers_of_piece}
use Rattle.influxdb_line_protocol.specs.laws.Laws.{IsAdmittedIn, AdmittedBatchesReadBack, PiecesAreUnique, StringsAreOnOneLine}
use Rattle.influxdb_line_protocol.specs.laws.PointsOfLines.{LinesArePoints}
use Rattle.lp_rebuild.specs.declared.batch.Rebuilt.{Rebuilt}
use Rattle.lp_rebuild.specs.RebuildSteps.{IsTrimmed}
use Rattle.lp_rebuild.specs.Rebuilding.{CanBeReadIn, RebuildsIn, ReadsBackIn, carried_point, batch_of}

-- a line that a trimmed text says was read
pub line_is_read : (dialect : Dialect) (text : List ℕ) (line : ParsedLine) (read : Result Unit Error) → IsTrimmed text
    → FillsLine line read (answer dialect text) → IfOk (item_in line read) (λ l. IsReadLine l)
line_is_read dialect text line (Err e) is filled = tt
line_is_read dialect text line (Ok done) is filled =
    record { dialect = dialect; text = is.0; answered = ap (answer dialect) (sym is.1) ∙ filled }

-- The item that was read is the answer for the text.
pub filled_answers : (line : ParsedLine) (read : Result Unit Error) (answer : Result Line Fault) → FillsLine line read answer
    → Answers (item_in line read) answer
filled_answers line (Ok done) answer filled = filled
filled_answers line (Err e) answer filled = filled

-- a line that was read has a field
pub has_field : LinesArePoints → (dialect : Dialect) (text : List ℕ) (line : ParsedLine) → answer dialect text ≡ Ok (line_read line)
    → 0 < length line.field_set.items
has_field are dialect text line read =
    let point = are dialect text (line_read line) read in
    subst (λ (n : ℕ). 0 < n) (length-map (map field_of line.field_set.items) logical_field ∙ length-map line.field_set.items field_of)
    point.some_field

-- A property of all elements of two lists holds for all elements of the joined list.
all_joined : {X : Type 0} (P : X → Type 0) (xs ys : List X) → AllByRecursion P xs → AllByRecursion P ys → AllByRecursion P (xs ++ ys)
all_joined P [] ys first second = second
all_joined P (x ∷ xs) ys first second = (first.0, all_joined P xs ys first.1 second)

-- The carried point of the answer for a text is a point.
answer_is_point : LinesArePoints → (dialect : Dialect) (text : List ℕ) (a : Result Line Fault)
    → answer dialect text ≡ a → AllByRecursion IsPoint (carried_point a)
answer_is_point are dialect text (Err e) h = tt
answer_is_point are dialect text (Ok line) h =
    elim (cases_Bool (is_admitted_point (point_of line))) [
      | inl good ↦ rw good (are dialect text line h, tt)
      | inr bad ↦ rw bad tt
    ]

-- All carried points of the answers for pieces are points.
points_are : LinesArePoints → (dialect : Dialect) (pieces : List (List ℕ))
    → AllByRecursion IsPoint (flat_map carried_point (answers_of dialect pieces))
unfolding answers_of_piece
points_are are dialect [] = tt
points_are are dialect (piece ∷ pieces) =
    let others = points_are are dialect pieces in
    let a = answer dialect (trimmed piece) in
    elim (cases_Bool (length (trimmed piece) == 0)) [
      | inl none ↦ rw none others
      | inr some ↦
          rw some
          (all_joined IsPoint (carried_point a) (flat_map carried_point (answers_of dialect pieces))
          (answer_is_point are dialect (trimmed piece) a refl) others)
    ]

-- The point of each carried line is admitted in a dialect, if each admitted point of these lines is admitted there.
lines_admitted : (dialect : Dialect) (items : List (Result Line Fault))
    → ((line : Line) → Contains items (Ok line) → is_admitted_point (point_of line) ≡ true → is_admitted_in dialect (point_of line) ≡ true)
    → list_all (is_admitted_in dialect) (flat_map carried_point items) ≡ true
lines_admitted dialect [] each = refl
lines_admitted dialect (Err e ∷ items) each =
    lines_admitted dialect items (λ line here. each line (Contains-append_right (Err e ∷ []) items (Ok line) here))
lines_admitted dialect (Ok l ∷ items) each =
    let others = lines_admitted dialect items (λ line here. each line (Contains-append_right (Ok l ∷ []) items (Ok line) here)) in
    elim (cases_Bool (is_admitted_point (point_of l))) [
      | inl good ↦ rw good (and_from _ _ (each l (0, omega arith, refl) good) others)
      | inr bad ↦ rw bad others
    ]

-- the points that are carried are admitted in each dialect in which their lines can be read
carried_admitted : StringsAreOnOneLine → (from to : Dialect) (text : List ℕ) (items : List (Result Line Fault)) → HasAnswers from text items
    → CanBeReadIn from to (flat_map carried_point items) → list_all (is_admitted_in to) (flat_map carried_point items) ≡ true
carried_admitted strings from Crate text items has can = lines_admitted Crate items (λ line here good. good)
carried_admitted strings from Strict text items has can = lines_admitted Strict items (λ line here good. good)
carried_admitted strings from NewlineDelimited text items has (inr all) = all
carried_admitted strings from NewlineDelimited text items has (inl same) =
    lines_admitted NewlineDelimited items (λ line here good.
    and_from _ _ good (strings text items line (subst (λ d. HasAnswers d text items) same has) here))

-- points that are admitted, one by one
each_admitted : (dialect : Dialect) (points : List Point) → AllByRecursion IsPoint points
    → list_all (is_admitted_in dialect) points ≡ true → AllByRecursion (IsAdmittedIn dialect) points
each_admitted dialect [] are all = tt
each_admitted dialect (p ∷ points) are all =
    let parts = and_parts (is_admitted_in dialect p) (list_all (is_admitted_in dialect) points) all in
    (record { is_point = are.0; admitted = parts.0 }, each_admitted dialect points are.1 parts.1)

-- a text has no other answers
answers_are : PiecesAreUnique → (dialect : Dialect) (text : List ℕ) (answers others : List (Result Line Fault))
    → HasAnswers dialect text answers → HasAnswers dialect text others → answers ≡ others
answers_are unique dialect text answers others first second =
    first.answered ∙ ap (answers_of dialect) (unique dialect text first.pieces second.pieces first.are second.are) ∙ sym second.answered

-- the batch of a rebuild reads back
pub batch_reads_back : AdmittedBatchesReadBack → StringsAreOnOneLine → LinesArePoints → PiecesAreUnique
    → (from : Dialect) (text : List ℕ) (r : Rebuilt) → RebuildsIn from text r → ReadsBackIn from text r
batch_reads_back law strings are unique from text r h items has dialect can t answers after =
    let points = flat_map carried_point items in
    let points_of : AllByRecursion IsPoint points =
    subst (λ (l : List (Result Line Fault)). AllByRecursion IsPoint (flat_map carried_point l))
    (sym has.answered) (points_are are from has.pieces) in
    let admitted = each_admitted dialect points points_of (carried_admitted strings from dialect text items has can) in
    let batch : r.batch.items ≡ built_all points = h.batch ∙ ap batch_of (answers_are unique from text h.answers items h.has has) in
    let read = law dialect points t answers admitted after in (
      read.0,
      read.1,
      ap built_all read.1 ∙ sym batch,
      subst (λ (l : List ℕ). HasAnswers dialect (l ++ t) (map Ok read.0 ++ answers)) (sym batch) read.2,
    )
