-- Texts, lines and points that the worked lines share.
use Prim.Native.String.{String}
use Rattle.std.specs.{Prelude.⊤, Fmt.digits}
use Rattle.std.proofs.Common.{◌≡◌, ℕ, List, [], ◌∷◌, Bool, true, false, None, refl, sym, ◌∙◌, codes, arith, pos}
use Rattle.std.proofs.lemmas.Bool.{false≢true}
use Rattle.lp_format.specs.format.{Crate, Strict, Point, Pair, Text, Tag, Line, Value, integer, line_of, IsValue}
use Rattle.lp_format.specs.format.{is_admitted_point, is_admitted_name, escaped, IsCutPiece, IsPoint, trimmed, tag, field, answer}
use Rattle.lp_format.specs.format.{answers_of_piece, name, without_escapes, first_bare, is_escaped_after, value, integer_at, unsigned_at, float_at, string_at, boolean_at}
use Rattle.lp_lines.proofs.lemmas.read_back.LinePieces.{admitted_point, line_is_cut_piece}
use Rattle.lp_portable.specs.format.Spellings.{holds}

-- The definitions that have to be unfolded to compute the answers for the worked lines.
unfoldable pub on_texts : ⊤
unfolding line_of escaped is_admitted_point is_admitted_name digits answers_of_piece answer trimmed tag field name without_escapes first_bare
    is_escaped_after value integer_at unsigned_at float_at string_at boolean_at holds
on_texts = tt

-- a part of a text, as it is read
abbrev pub part : String → Text
part t = record { bytes = codes t; is_single = true }

-- a tag by its key and its value
abbrev pub tag_of : String → String → Tag
tag_of key text = record { key = codes key; value = codes text }

-- a tag whose names are parts of a text
abbrev pub read_tag : String → String → Pair Text Text
read_tag key text = record { key = part key; value = part text }

-- a point of the measurement `m` with one field `f`, and without tags
abbrev pub point_of_m : Value (List ℕ) → Point
point_of_m v = record { measurement = codes "m"; tags = []; fields = record { key = codes "f"; value = v } ∷ []; timestamp = None }

-- The line that is read from the text of the point `m` with this value.
abbrev pub line_of_m : Value Text → Line
line_of_m v = record { series = codes "m"; measurement = part "m"; tags = None; fields = record { key = part "f"; value = v } ∷ []; timestamp = None }

-- `m f=1i`
abbrev pub one : Point
one = point_of_m (integer (pos 1))

abbrev pub one_line : Line
one_line = line_of_m (integer (pos 1))

-- a point with a value in range is a point
pub is_point_of_m : (v : Value (List ℕ)) → IsValue v → IsPoint (point_of_m v)
is_point_of_m v fits = record { some_field = omega arith; values = (fits, tt); timestamp = tt }

-- The line of a point `m` with this value is a piece that a newline ends, by the strict rules.
pub m_is_cut : (v : Value (List ℕ)) → IsValue v → IsCutPiece Strict (line_of (point_of_m v))
unfolding on_texts
m_is_cut v fits = line_is_cut_piece Strict (point_of_m v) (admitted_point (point_of_m v) (is_point_of_m v fits) refl) (λ never. cc)

-- The line of a point `m` with this value is a piece that a newline ends, by the rules of the crate.
pub m_is_cut_in_crate : (v : Value (List ℕ)) → IsValue v → IsCutPiece Crate (line_of (point_of_m v))
unfolding on_texts
m_is_cut_in_crate v fits = line_is_cut_piece Crate (point_of_m v) (admitted_point (point_of_m v) (is_point_of_m v fits) refl) (λ never. cc)

-- A test cannot be both true and false.
pub never : {A : Type 0} {b : Bool} → b ≡ true → b ≡ false → A
never is not = absurd (false≢true (sym not ∙ is))
