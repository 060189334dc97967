-- The logical texts of each line that is answered are a point: it has a field, and its values and its timestamp fit. The lines that are as
-- the builder writes them are the lines that it writes again byte for byte.
use Rattle.std.proofs.Common.{◌≡◌, ◌≢◌, ℕ, ◌<◌, List, [], length, take, drop, Bool, true, false, cond, subst, arith, Option, Ok}
use Rattle.std.proofs.Common.{◌==◌, ℤ, IfSome, ◌∷◌, ◌++◌, ap}
use Rattle.std.specs.List.{AllByRecursion}
use Rattle.std.proofs.lemmas.{Bool.eqb-false, Bool.Decides.nat_tests, List.length-map, List.append_cancel_right}
use Rattle.lp_format.specs.format.{Dialect, Text, miss, reads, Value, float, float_len, fits_i64}
use Rattle.lp_format.specs.format.{integer_at, unsigned_at, float_at, string_at, boolean_at, value, Pair, IsValue, logical_field}
use Rattle.lp_format.specs.format.{logical_value, field, separated_list, field_set, without_comma, spaces, timestamp, newline, line_of}
use Rattle.lp_format.specs.format.{answer, point_of}
use Rattle.lp_format.specs.laws.PointsOfLines.{LinesArePoints, LinesThatStayAreWritten, WrittenLinesStay}
use Rattle.lp_format.proofs.lemmas.{literals.FloatLemmas.float_len_float, names.Inversions.joined_of, meanings.ShorterRests.field_no_longer}
use Rattle.lp_format.proofs.lemmas.{read_back.NameReadsBack.read_line, read_back.NameReadsBack.read_line_is}
use Rattle.lp_values.proofs.lemmas.fields.ReadingLemmas.{bind_reads, pair_parts}
use Rattle.lp_lines.proofs.lemmas.names.ParsedNames.{all_made, answer_parts, ok_same}
use Rattle.lp_lines.proofs.lemmas.line.AnsweredLines.{joined_some}
use Rattle.lp_lines.proofs.lemmas.read_back.{LinePieces.admitted_point, LineReadsBack.line_reads_back}

-- a value that was read is one of its type
abbrev pub Fits : Value Text → Type 0
Fits x = IsValue (logical_value x)

-- If a conditional reading gives a value, its test fails and the value is the value of the other branch.
no_test : {A : Type 0} (a : Bool) (y x : A) (after rest : List ℕ) → cond a miss (reads y after) ≡ reads x rest → (a ≡ false) × (y ≡ x)
no_test x0 y x after rest h = grind (arith)

-- an integer is in range
integer_fits : (line : List ℕ) (x : Value Text) (rest : List ℕ) → integer_at line ≡ reads x rest → Fits x
unfolding integer_at
integer_fits line x rest h = grind arith

-- An unsigned integer that is read is in range.
unsigned_fits : (line : List ℕ) (x : Value Text) (rest : List ℕ) → unsigned_at line ≡ reads x rest → Fits x
unfolding unsigned_at
unsigned_fits line x rest h = grind (arith, nat_tests)

-- a float is a literal
float_fits : (line : List ℕ) (x : Value Text) (rest : List ℕ) → float_at line ≡ reads x rest → Fits x
unfolding float_at
float_fits line x rest h =
    let parts = no_test (float_len line == 0) (float (take (float_len line) line)) x (drop (float_len line) line) rest h in
    let some : float_len line ≢ 0 = eqb-false (float_len line) 0 parts.0 in
    subst Fits parts.1 (float_len_float line (omega arith))

-- A boolean that is read fits, for either boolean.
boolean_fits : (b : Bool) (words : List (List ℕ)) (line : List ℕ) (x : Value Text) (rest : List ℕ)
    → boolean_at b words line ≡ reads x rest → Fits x
unfolding boolean_at
boolean_fits b words line x rest h = grind (arith, no_test)

-- the value of a field
abbrev pub FieldFits : Pair Text (Value Text) → Type 0
FieldFits f = Fits f.value

-- The value of each field that is read is in range, or is a literal.
field_fits : (line : List ℕ) (f : Pair Text (Value Text)) (rest : List ℕ) → field line ≡ reads f rest → FieldFits f
unfolding field value string_at
field_fits line f rest h = grind (arith, pair_parts, integer_fits, unsigned_fits, float_fits, boolean_fits)

-- the fields of a line: at least one, and each with a value of its type
record SomeFit (fs : List (Pair Text (Value Text))) : Type 0 where
  some : 0 < length fs
  fit : AllByRecursion FieldFits fs

-- the numbers of fields that are read are in range
field_set_fits : (dialect : Dialect) (line rest : List ℕ) (fs : List (Pair Text (Value Text)))
    → field_set dialect line ≡ reads fs rest → SomeFit fs
field_set_fits dialect line rest fs h =
    let parts = bind_reads (separated_list field line) (λ xs. reads xs.value (without_comma dialect xs.value xs.rest)) fs rest h in
    let fit = joined_of FieldFits field field_fits (λ t. (field_no_longer t).holds) line parts.mid parts.first parts.was in
    subst SomeFit (cc (parts.next)) (record { some = joined_some field line parts.mid parts.first parts.was; fit = fit })

-- a timestamp is in range
stamp_fits : (line rest : List ℕ) (t : Option ℤ) → timestamp line ≡ Ok (record { value = t; rest = rest })
    → IfSome t (λ y. fits_i64 y ≡ true)
stamp_fits line rest t h = grind (arith, ok_same)

-- the logical texts of each line that is answered are a point
pub lines_are_points : LinesArePoints
lines_are_points dialect text line h =
    let parts = answer_parts dialect text line h in
    let fields = field_set_fits dialect (drop (spaces parts.tags_rest) parts.tags_rest) parts.fields_rest line.fields parts.fields in
    record {
      some_field = omega (arith, length-map line.fields logical_field, fields.some);
      values = all_made FieldFits (λ f. IsValue f.value) logical_field (λ f h. h) line.fields fields.fit;
      timestamp = stamp_fits parts.fields_rest [] line.timestamp parts.stamp;
    }

-- a text that is as written is read as a line that the builder writes so
pub written_lines_stay : WrittenLinesStay
written_lines_stay dialect text w =
    let p = w.point in
    let same = read_line_is p in (
      read_line p,
      subst (λ xs. answer dialect xs ≡ Ok (read_line p)) w.written (line_reads_back dialect p (admitted_point p w.is_point w.admitted)),
      (rw same w.admitted, rw same (ap (λ (xs : List ℕ). xs ++ newline ∷ []) w.written)),
    )

-- a text that the builder writes for the line that it is read as is as written
pub stayed_lines_are_written : LinesThatStayAreWritten
stayed_lines_are_written dialect text line read again =
    record {
      point = point_of line;
      is_point = lines_are_points dialect text line read;
      admitted = again.0;
      written = append_cancel_right (line_of (point_of line)) text (newline ∷ []) again.1;
    }

-- both laws of lines that are written again as they are
pub ruleset stay_laws = (written_lines_stay, stayed_lines_are_written)
