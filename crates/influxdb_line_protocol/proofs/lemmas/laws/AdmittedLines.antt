-- Lines of admitted points after closed lines; that a line with a field is a point; and two worked points.
use Rattle.std.proofs.Common.{◌≡◌, ℕ, ◌<◌, ◌≤◌, List, [], ◌∷◌, ◌++◌, length, map, true, false, refl, subst, arith, append_assoc}
use Rattle.std.proofs.Common.{append-nil, None, Ok, codes}
use Rattle.std.proofs.lemmas.{Grind.not_there, List.map-append, Simd.map-map}
use Prim.Native.String.{String}
use Rattle.lp_format.specs.format.{Dialect, newline, Point, IsPoint, IsFloat, float_len, is_admitted_in, is_admitted_name, is_admitted_point, boolean, string, Strict, NewlineDelimited, escaped, line_of}
use Rattle.lp_format.specs.format.{built, built_all}
use Rattle.lp_format.specs.laws.Laws.{IsAdmittedIn}
use Rattle.std.specs.List.{AllByRecursion, list_all}
use Rattle.std.proofs.lemmas.Bool.{and_parts}
use Rattle.lp_format.proofs.lemmas.{literals.FloatLemmas.float_fills, literals.FloatLemmas.float_whole, split.SplitPieces.answers_join}
use Rattle.influxdb_line_protocol.specs.laws.AdmittedLines.{AddsPoints, AdmittedLinesAddPoints, EndedLinesAreClosed, EmptyTextIsClosed}
use Rattle.influxdb_line_protocol.proofs.lemmas.laws.BatchesReadBack.{admitted_batches_read_back}

-- the text of a `FloatText` is a literal
pub literal_is_float : (text : List ℕ) → ∥ IsFloat text ∥₁ → IsFloat text
literal_is_float text t =
    let fills : (0 < float_len text) × (length text ≤ float_len text) = grind (arith, not_there, float_fills) in
    float_whole text fills.0 fills.1

-- an empty text is closed lines
pub empty_text_is_closed : EmptyTextIsClosed
empty_text_is_closed dialect t others h = h

-- a text and a newline that may end its last piece are closed lines
pub ended_lines_are_closed : EndedLinesAreClosed
ended_lines_are_closed dialect text before piece items h c f t others o = (
  f.0 ++ o.0,
  rw (append_assoc text (newline ∷ []) t) (answers_join dialect text t before piece f.0 o.0 h c f.1 o.1),
  grind (arith, map-append),
)

-- points that are admitted in a dialect
admitted_in : (dialect : Dialect) (points : List Point) → AllByRecursion IsPoint points → list_all (is_admitted_in dialect) points ≡ true
    → AllByRecursion (IsAdmittedIn dialect) points
admitted_in dialect [] all admitted = tt
admitted_in dialect (p ∷ points) all admitted =
    let parts = and_parts (is_admitted_in dialect p) (list_all (is_admitted_in dialect) points) admitted in
    (record { is_point = all.0; admitted = parts.0 }, admitted_in dialect points all.1 parts.1)

-- lines of admitted points add these points
pub admitted_lines_add_points : AdmittedLinesAddPoints
admitted_lines_add_points before points all dialect items admitted closed t others h =
    let batch = admitted_batches_read_back dialect points t h.0 (admitted_in dialect points all admitted) h.1 in
    rw (append_assoc before (built_all points) t, append_assoc items (map Ok points) others)
    (closed (built_all points ++ t) (map Ok points ++ others)
    (map Ok batch.0 ++ h.0, batch.2, grind (arith, map-append, map-map)))

-- The line of one point adds this point.
pub one_line_adds_its_point : (before after : List ℕ) (p : Point) → IsPoint p → after ≡ before ++ built p
    → AddsPoints before (p ∷ []) after
one_line_adds_its_point before after p h e =
    subst (AddsPoints before (p ∷ [])) (grind (arith, append-nil)) (admitted_lines_add_points before (p ∷ []) (h, tt))

-- a login whose user has this name
abbrev login : String → Point
login user =
    record {
      measurement = codes "login";
      tags = record { key = codes "user"; value = codes user } ∷ [];
      fields = record { key = codes "ok"; value = boolean true } ∷ [];
      timestamp = None;
    }

-- a note with this text
abbrev note : String → Point
note text =
    record {
      measurement = codes "m";
      tags = [];
      fields = record { key = codes "note"; value = string (codes text) } ∷ [];
      timestamp = None;
    }

-- a name with a newline is not admitted, so no text that a user chose begins a line of its own
a_newline_is_not_admitted : is_admitted_point (login "guest\npayments") ≡ false
unfolding is_admitted_name is_admitted_point
a_newline_is_not_admitted = refl

-- with a space in its place it is, and this is its line
a_space_is_admitted : (is_admitted_point (login "guest payments") ≡ true)
    × (built (login "guest payments") ≡ codes "login,user=guest\\ payments ok=true\n")
unfolding escaped is_admitted_name is_admitted_point line_of
a_space_is_admitted = (refl, refl)

-- with a string of two lines it is admitted in two dialects, and not if each newline ends a line
a_string_of_two_lines : (is_admitted_in Strict (note "a\nb") ≡ true) × (is_admitted_in NewlineDelimited (note "a\nb") ≡ false)
    × (is_admitted_in NewlineDelimited (note "a b") ≡ true)
unfolding is_admitted_name is_admitted_point
a_string_of_two_lines = (refl, refl, refl)
