-- Points, and the names that lines can have: an example that each relation covers, and one just outside.
use Rattle.std.proofs.Common.{◌≡◌, ℕ, List, [], Result, Ok, Err, refl, sym, ap, ◌∙◌, codes, arith, pos}
use Rattle.std.proofs.Common.{length, drop, subst, inl, inr}
use Rattle.std.specs.Prelude.{slice_index}
use Rattle.lp_format.specs.format.{Crate, Strict, NewlineDelimited, Dialect, string, integer, newline, HasAnswers, HasItems, answers_of, item_of, field_set_missing}
use Rattle.lp_format.specs.format.{Point, Line, IsPoint, IsAsWritten, IsFloat, a_measurement, a_tag_key, NameKind, answer, Value, is_admitted_in, Fault, Read, Reading, reads, point_of, tag_set, field_set, spaces}
use Rattle.lp_format.specs.laws.Laws.{IsAdmittedIn}
use Rattle.lp_format.specs.laws.NamesOfLines.{IsParsedName, IsReadableIn, EndsItsFields, IsNothingOrSpaced}
use Rattle.lp_format.proofs.lemmas.literals.FloatLemmas.{float_len_float, float_len_longest}
use Rattle.lp_lines.proofs.lemmas.names.ParsedNames.{names_are_parsed, strict_fields_end}
use Rattle.lp_written.proofs.lemmas.points.LinesArePoints.{written_lines_stay}
use Rattle.influxdb_line_protocol.proofs.lemmas.laws.BatchesReadBack.{items_have_readable_names}
use Rattle.lp_worked.proofs.WorkedTexts.{on_texts, one, one_line, point_of_m, is_point_of_m, never}
use Rattle.lp_worked.proofs.WorkedAnswers.{two_answers, two_items}

-- A point with a field is a point.
pub a_field_makes_a_point : IsPoint one
a_field_makes_a_point = is_point_of_m (integer (pos 1)) refl

-- Without a field it is none.
pub no_field_makes_none : ¬ IsPoint (record one { fields = [] })
no_field_makes_none h = omega (arith, h.some_field)

-- If each newline ends a line, the string `a b` is admitted.
pub a_space_is_admitted : IsAdmittedIn NewlineDelimited (point_of_m (string (codes "a b")))
unfolding on_texts
a_space_is_admitted = record { is_point = is_point_of_m (string (codes "a b")) tt; admitted = refl }

-- The string `a⏎b` is not.
pub a_newline_is_not_admitted : ¬ IsAdmittedIn NewlineDelimited (point_of_m (string (codes "a\nb")))
unfolding on_texts
a_newline_is_not_admitted h = never h.admitted refl

-- The string `a⏎b` is admitted in the strict dialect.
pub a_newline_is_admitted_strictly : IsAdmittedIn Strict (point_of_m (string (codes "a\nb")))
unfolding on_texts
a_newline_is_admitted_strictly = record { is_point = is_point_of_m (string (codes "a\nb")) tt; admitted = refl }

-- Lines can have the measurement `m`.
pub a_name_is_parsed : IsParsedName a_measurement (codes "m")
a_name_is_parsed = names_are_parsed Strict _ _ one_line a_measurement (codes "m") two_answers (grind arith) (grind arith)

-- No line has the measurement `#m`, because this measurement begins a comment.
pub a_comment_is_no_name : ¬ IsParsedName a_measurement (codes "#m")
a_comment_is_no_name h = h.begins refl

-- Lines can have all names of `m f=1i`.
pub a_point_is_readable : IsReadableIn Strict one
a_point_is_readable = items_have_readable_names Strict _ _ one two_items (grind arith)

-- No line has the names of a point with the measurement `#m`.
pub a_comment_is_not_readable : ¬ IsReadableIn Strict (record one { measurement = codes "#m" })
a_comment_is_not_readable h = a_comment_is_no_name (h.0 a_measurement (codes "#m") (grind arith))

-- The builder writes `m f=1i`.
pub a_line_is_as_written : IsAsWritten (codes "m f=1i")
unfolding on_texts
a_line_is_as_written = record { point = one; is_point = a_field_makes_a_point; admitted = refl; written = refl }

-- The builder does not write `m f=01i`: the line is read, and written again as `m f=1i`.
pub a_zero_is_not_as_written : ¬ IsAsWritten (codes "m f=01i")
unfolding on_texts
a_zero_is_not_as_written h =
    let stays = written_lines_stay Strict (codes "m f=01i") h in
    let same : Ok one_line ≡ Ok stays.0 = stays.1 in
    let line : one_line ≡ stays.0 = cc in
    let again = ap (λ (l : Line). Rattle.lp_format.specs.format.Points.built (point_of l)) line ∙ stays.2.1 in
    absurd (cc)

-- Nothing follows the fields of `m f=1i`.
pub fields_end : EndsItsFields (codes "m f=1i") one_line
unfolding on_texts
fields_end = strict_fields_end (codes "m f=1i") one_line refl

-- The text that a reading leaves.
abbrev after : {A : Type 0} → Reading A → List ℕ
after (reads x rest) = rest
after other = []

-- The text that a reading of a set of tags leaves.
abbrev after_set : {A : Type 0} → Result (Read A) Fault → List ℕ
after_set (Ok r) = r.rest
after_set (Err e) = []

-- A comma follows the field of `m f=1i,`, so the line does not end its fields. Only the reader of the crate takes this comma.
pub fields_do_not_end : ¬ EndsItsFields (codes "m f=1i,") one_line
unfolding on_texts
fields_do_not_end h =
    let measured : h.measurement_rest ≡ codes " f=1i," = ap after (sym h.measurement) in
    let tagged : h.tags_rest ≡ codes " f=1i," = ap after_set (sym h.tags) ∙ ap (λ (t : List ℕ). after_set (tag_set t)) measured in
    let left : h.fields_rest ≡ codes "," = ap after (sym h.fields) ∙ ap (λ (t : List ℕ). after (field_set Strict (drop (spaces t) t))) tagged in
    elim (subst IsNothingOrSpaced left h.ends) [
      | inl none ↦ omega (arith, ap length none)
      | inr spaced ↦ omega (arith, ap (λ (t : List ℕ). slice_index t 0) spaced.1)
    ]

-- The literal of a float is `1.5`.
pub a_float : IsFloat (codes "1.5")
a_float = float_len_float (codes "1.5") (omega arith)

-- A float does not end in a point.
pub a_point_is_no_end : ¬ IsFloat (codes "1.")
a_point_is_no_end h = omega (arith, float_len_longest (codes "1.") 2 (omega arith) h)
