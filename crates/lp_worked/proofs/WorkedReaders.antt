-- Worked lines about other readers of a line: an example that each relation covers, and one just outside.
use Rattle.std.proofs.Common.{ℕ, List, [], ◌∷◌, length, false, refl, ap, codes, arith, pos}
use Rattle.lp_format.specs.format.{Strict, Line, string, integer, backslash, equals, quote, a_field_key, a_measurement, a_tag_key, a_tag_value}
use Rattle.lp_format.proofs.lemmas.split.SplitPieces.{IsLastPiece-cut}
use Rattle.lp_portable.specs.format.Portable.{IsOneLine}
use Rattle.lp_portable.specs.format.Spellings.{IsSpelled, Spelling}
use Rattle.lp_portable.specs.laws.PortableLaws.{IsReadAlike, MeansTheSame, NamesMeanTheSame, SpellsNamesOf}
use Rattle.lp_portable.proofs.AnsweredAlike.{lines_are_answered_alike}
use Rattle.lp_portable.proofs.Once.{spelled_once}
use Rattle.std.specs.Prelude.{slice_index, sum_by}
use Rattle.lp_portable.proofs.HeldBytes.{escaped_bytes_are_held}
use Rattle.lp_worked.proofs.WorkedTexts.{on_texts, one_line, line_of_m, m_is_cut, part, never}
use Rattle.lp_worked.proofs.WorkedPieces.{a_line_has_no_newline, a_string_has_a_newline, two_lines_are_not_last}

-- `m f=1i` is one line.
pub one_is_one_line : IsOneLine (codes "m f=1i") one_line
unfolding on_texts
one_is_one_line = record { piece = m_is_cut (integer (pos 1)) refl; read = refl }

-- `m f=1i⏎m f=2i` is not.
pub two_are_not_one_line : ¬ IsOneLine (codes "m f=1i\nm f=2i") one_line
two_are_not_one_line h = two_lines_are_not_last (IsLastPiece-cut Strict (codes "m f=1i\nm f=2i") h.piece)

-- `m f=1i` is answered alike in each dialect.
pub one_is_read_alike : IsReadAlike (codes "m f=1i") one_line
one_is_read_alike = record {
  one_line = a_line_has_no_newline;
  answered = λ dialect. lines_are_answered_alike dialect (codes "m f=1i") one_line one_is_one_line (λ is. a_line_has_no_newline);
}

-- `m f="a⏎b"` is not: if each newline ends a line, it is two lines.
pub a_newline_is_not_read_alike : ¬ IsReadAlike (codes "m f=\"a\nb\"") (line_of_m (string (part "a\nb")))
a_newline_is_not_read_alike h = a_string_has_a_newline h.one_line

-- The tag value `x\,y` means the same to a reader for which a backslash does not escape a backslash.
pub a_comma_means_the_same : MeansTheSame (backslash ∷ []) a_tag_value (codes "x\\,y")
unfolding on_texts
a_comma_means_the_same = (escaped_bytes_are_held (backslash ∷ []) a_tag_value (codes "x\\,y") refl).1 refl

-- The tag value `x\\y` does not.
pub two_backslashes_do_not : ¬ MeansTheSame (backslash ∷ []) a_tag_value (codes "x\\\\y")
unfolding on_texts
two_backslashes_do_not h = never refl ((escaped_bytes_are_held (backslash ∷ []) a_tag_value (codes "x\\\\y") refl).0 h)

-- the names of `m,t=x f=1i`, with another tag value
abbrev names_with : List ℕ → Spelling
names_with v = record { measurement = codes "m"; tags = record { key = codes "t"; value = v } ∷ []; keys = codes "f" ∷ [] }

-- The names of a line with the tag value `x\,y` mean the same to all readers.
pub names_mean_the_same : NamesMeanTheSame (names_with (codes "x\\,y"))
unfolding on_texts
names_mean_the_same = record {
  measurement = (escaped_bytes_are_held (backslash ∷ quote ∷ equals ∷ []) a_measurement (codes "m") refl).1 refl;
  tags = (((escaped_bytes_are_held (backslash ∷ []) a_tag_key (codes "t") refl).1 refl, a_comma_means_the_same), tt);
  keys = ((escaped_bytes_are_held (backslash ∷ quote ∷ []) a_field_key (codes "f") refl).1 refl, tt);
}

-- With the tag value `x\\y` they do not.
pub names_with_two_backslashes_do_not : ¬ NamesMeanTheSame (names_with (codes "x\\\\y"))
names_with_two_backslashes_do_not h = two_backslashes_do_not h.tags.0.1

-- `m f\ g=1i`
abbrev spaced : Line
spaced = record one_line { fields = record { key = record { bytes = codes "f g"; is_single = false }; value = integer (pos 1) } ∷ [] }

-- the names of this line, with the field key spelled so
abbrev spaced_names : List ℕ → Spelling
spaced_names key = record { measurement = codes "m"; tags = []; keys = key ∷ [] }

-- The field key of `m f\ g=1i` is spelled `f\ g`.
pub a_key_is_spelled : IsSpelled (codes "m f\\ g=1i") spaced (spaced_names (codes "f\\ g"))
unfolding on_texts
a_key_is_spelled = record {
  after_name = codes " f\\ g=1i";
  after_tags = codes " f\\ g=1i";
  rest = [];
  measurement = refl;
  tags = refl;
  keys = (_, refl, refl);
  all_tags = refl;
  all_keys = refl;
}

-- how long the keys of a spelling are
abbrev keys_len : Spelling → ℕ
keys_len names = sum_by length names.keys

-- The field key of `m f\ g=1i` is not spelled `f g`, which is the logical text of the key.
pub a_logical_text_is_no_spelling : ¬ IsSpelled (codes "m f\\ g=1i") spaced (spaced_names (codes "f g"))
a_logical_text_is_no_spelling h =
    omega (arith, ap keys_len (spelled_once (codes "m f\\ g=1i") spaced (spaced_names (codes "f\\ g")) (spaced_names (codes "f g")) a_key_is_spelled h))

-- The logical text of the spelling `f\ g` is the key that was read.
pub a_spelling_is_read : SpellsNamesOf spaced (spaced_names (codes "f\\ g"))
unfolding on_texts
a_spelling_is_read = record { measurement = refl; tags = refl; keys = refl }

-- The logical text of the spelling `f\,h` is not the field key of `m f\ g=1i`.
pub another_spelling_is_not : ¬ SpellsNamesOf spaced (spaced_names (codes "f\\,h"))
unfolding on_texts
another_spelling_is_not h = omega (arith, ap (λ (keys : List (List ℕ)). sum_by (λ k. slice_index k 1) keys) h.keys)
