-- A line that is portable to all servers, and one just outside.
use Prim.Native.String.{String}
use Rattle.std.specs.{Prelude.⊤, Fmt.digits}
use Rattle.std.proofs.Common.{◌≡◌, ℕ, List, [], ◌∷◌, true, false, None, Some, Ok, refl, sym, ap, ◌∙◌, codes, arith, pos}
use Rattle.lp_format.specs.format.{IsCutPiece, Line, NewlineDelimited, Point, Strict, Text, Value, answer, answers_of_piece, boolean_at, escaped, field, first_bare}
use Rattle.lp_format.specs.format.{float_at, integer, integer_at, IsValue, is_admitted_name, is_admitted_point, is_escaped_after, line_of, name, string_at, tag, trimmed}
use Rattle.lp_format.specs.format.{unsigned, unsigned_at, value, without_escapes}
use Rattle.lp_format.specs.format.{a_field_key, a_measurement, a_tag_value, comma, equals, is_one_of, logical, newline, reads, space, string, Pieces.Pieces}
use Rattle.lp_format.proofs.lemmas.split.SplitPieces.{lines_are_pieces}
use Rattle.lp_portable.proofs.AnsweredAlike.{no_newline}
use Rattle.lp_lines.proofs.lemmas.read_back.LinePieces.{admitted_point, line_is_cut_piece}
use Rattle.std.proofs.lemmas.Bool.{false≢true}
use Rattle.lp_portable.specs.format.Portable as portable
use Rattle.lp_portable.specs.format.Portable.{Clause, IsOneLine, IsPortable, all, breaks, concerns, default_limits, has_escape, influx1, victoria}
use Rattle.lp_portable.specs.format.Spellings.{IsSpelled, Spelling, holds, name_text, without_each}

-- The definitions that have to be unfolded to compute the answers for these lines.
unfoldable on_lines : ⊤
unfolding answers_of_piece answer trimmed tag field name without_escapes first_bare is_escaped_after value integer_at unsigned_at float_at string_at
    boolean_at line_of escaped is_admitted_point is_admitted_name digits holds
on_lines = tt

-- a text as it is read
abbrev part : String → Text
part t = record { bytes = codes t; is_single = true }

-- a line with the tag `t=x`, a field `f` of this value and a timestamp
abbrev line_with : Value Text → Line
line_with v = record {
  series = codes "m,t=x";
  measurement = part "m";
  tags = Some (record { key = part "t"; value = part "x" } ∷ []);
  fields = record { key = part "f"; value = v } ∷ [];
  timestamp = Some (pos 5000000);
}

-- The point of the line with this value.
abbrev point_with : Value (List ℕ) → Point
point_with v = record {
  measurement = codes "m";
  tags = record { key = codes "t"; value = codes "x" } ∷ [];
  fields = record { key = codes "f"; value = v } ∷ [];
  timestamp = Some (pos 5000000);
}

-- how its names are spelled
abbrev names : Spelling
names = record { measurement = codes "m"; tags = record { key = codes "t"; value = codes "x" } ∷ []; keys = codes "f" ∷ [] }

-- a text with an integer, and one with an unsigned integer
abbrev inside : List ℕ
inside = codes "m,t=x f=1i 5000000"

abbrev outside : List ℕ
outside = codes "m,t=x f=1u 5000000"

-- The line of the point is a piece that a newline ends.
is_piece : (v : Value (List ℕ)) → IsValue v → IsCutPiece Strict (line_of (point_with v))
unfolding on_lines
is_piece v fits =
    let admitted = admitted_point (point_with v) (record { some_field = omega arith; values = (fits, tt); timestamp = refl }) refl in
    line_is_cut_piece Strict (point_with v) admitted (λ never. cc)

-- an integer is portable to all servers
an_integer_is_portable : IsPortable all default_limits inside
unfolding on_lines
an_integer_is_portable = record {
  line = line_with (integer (pos 1));
  names = names;
  is_line = record { piece = is_piece (integer (pos 1)) refl; read = refl };
  are_names = record {
    after_name = codes ",t=x f=1i 5000000";
    after_tags = codes " f=1i 5000000";
    rest = codes " 5000000";
    measurement = refl;
    tags = (_, refl, refl);
    keys = (_, refl, refl);
    all_tags = refl;
    all_keys = refl;
  };
  keeps = keeps;
}
  where
    -- The line with an integer keeps each clause.
    keeps : (clause : Clause) → concerns all clause ≡ true → breaks default_limits inside (line_with (integer (pos 1))) names clause ≡ false
    keeps portable.unsigned own = refl
    keeps other own = refl

-- The text with an unsigned integer is read as a line.
outside_is_line : IsOneLine outside (line_with (unsigned 1))
unfolding on_lines
outside_is_line = record { piece = is_piece (unsigned 1) (omega arith); read = refl }

-- The names of the line with an unsigned integer are spelled as they read.
outside_is_spelled : IsSpelled (trimmed outside) (line_with (unsigned 1)) names
unfolding on_lines
outside_is_spelled = record {
  after_name = codes ",t=x f=1u 5000000";
  after_tags = codes " f=1u 5000000";
  rest = codes " 5000000";
  measurement = refl;
  tags = (_, refl, refl);
  keys = (_, refl, refl);
  all_tags = refl;
  all_keys = refl;
}

-- The line with an unsigned integer is portable to VictoriaMetrics.
an_unsigned_integer_is_for_victoria : IsPortable victoria default_limits outside
unfolding on_lines
an_unsigned_integer_is_for_victoria = record {
  line = line_with (unsigned 1);
  names = names;
  is_line = outside_is_line;
  are_names = outside_is_spelled;
  keeps = keeps;
}
  where
    -- The line with an unsigned integer keeps each clause that concerns VictoriaMetrics.
    keeps : (clause : Clause) → concerns victoria clause ≡ true → breaks default_limits outside (line_with (unsigned 1)) names clause ≡ false
    keeps portable.unsigned own = absurd (false≢true own)
    keeps other own = refl

-- The line with an unsigned integer is not portable to InfluxDB 1.x.
an_unsigned_integer_is_not_for_influx : ¬ IsPortable influx1 default_limits outside
an_unsigned_integer_is_not_for_influx line =
    let read = line.is_line.read in
    let again = outside_is_line.read in
    let one : line.line ≡ line_with (unsigned 1) = cc in
    let unsigned_is_broken : breaks default_limits outside (line_with (unsigned 1)) names portable.unsigned ≡ true = refl in
    let kept = line.keeps portable.unsigned refl in
    absurd (false≢true (sym kept ∙ ap (λ (l : Line). breaks default_limits outside l line.names portable.unsigned) one ∙ unsigned_is_broken))

-- The bytes that a backslash escapes in a tag for a reader for which it escapes no backslash.
abbrev others : List ℕ
others = comma ∷ equals ∷ space ∷ []

-- An escaped comma means the same to a reader for which a backslash escapes no backslash.
a_comma_means_the_same : (has_escape (record { key = codes "t"; value = codes "x\\,y" }) ≡ false)
    × (without_escapes others (codes "x\\,y") ≡ codes "x,y") × (without_each others (codes "x\\,y") ≡ codes "x,y")
    × (logical a_tag_value (codes "x\\,y") ≡ codes "x,y")
unfolding on_lines
a_comma_means_the_same = (refl, refl, refl, refl)

-- An escaped backslash does not mean the same: here it is one backslash, and two for that reader. Before a comma, readers also differ by
-- whether they take each backslash by itself.
a_backslash_does_not : (has_escape (record { key = codes "t"; value = codes "x\\\\y" }) ≡ true)
    × (without_escapes others (codes "x\\\\y") ≡ codes "x\\\\y") × (logical a_tag_value (codes "x\\\\y") ≡ codes "x\\y")
    × (without_escapes others (codes "x\\\\,y") ≡ codes "x\\\\,y") × (without_each others (codes "x\\\\,y") ≡ codes "x\\,y")
unfolding on_lines
a_backslash_does_not = (refl, refl, refl, refl, refl)

-- An escaped equals sign of a measurement does not mean the same to a reader that takes it for escaped.
an_equals_sign_does_not : (holds (equals ∷ []) [] (codes "m\\=n") ≡ true) × (without_escapes others (codes "m\\=n") ≡ codes "m=n")
    × (logical a_measurement (codes "m\\=n") ≡ codes "m\\=n")
unfolding on_lines
an_equals_sign_does_not = (refl, refl, refl)

-- a line of `m` with a string
abbrev in_a_string : Line
in_a_string = record {
  series = codes "m";
  measurement = part "m";
  tags = None;
  fields = record { key = part "f"; value = string (part "a\nb") } ∷ [];
  timestamp = None;
}

-- a string with a newline is one line by the strict rules, and two where each newline ends a line
a_newline_is_two_lines : (answers_of_piece Strict (codes "m f=\"a\nb\"") ≡ Ok in_a_string ∷ []) × (is_one_of (codes "m f=\"a\nb\"") newline ≡ true)
    × Pieces NewlineDelimited (codes "m f=\"a\nb\"") (codes "m f=\"a" ∷ codes "b\"" ∷ [])
unfolding on_lines
a_newline_is_two_lines =
    (refl, refl, lines_are_pieces (codes "m f=\"a") (codes "b\"" ∷ []) (no_newline (codes "m f=\"a") refl, (no_newline (codes "b\"") refl, tt)))

-- a key is spelled with its escapes, and read without them
a_key_is_spelled : (name_text a_field_key (codes "f\\ g=1i") ≡ reads (codes "f\\ g") (codes "=1i")) × (logical a_field_key (codes "f\\ g") ≡ codes "f g")
unfolding on_lines
a_key_is_spelled = (refl, refl)

-- a bare space ends it
a_space_ends_it : name_text a_field_key (codes "f g=1i") ≡ reads (codes "f") (codes " g=1i")
unfolding on_lines
a_space_ends_it = refl

-- a tag value holds a comma bare, or escaped and not bare
a_comma_is_held_bare : (holds [] (comma ∷ []) (codes "x,y") ≡ true) × (holds [] (comma ∷ []) (codes "x\\,y") ≡ false)
unfolding on_lines
a_comma_is_held_bare = (refl, refl)
