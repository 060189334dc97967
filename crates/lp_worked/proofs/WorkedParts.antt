-- Worked lines about the parts of a line: an example that each relation covers, and one just outside.
use Rattle.std.proofs.Common.{List, [], ◌∷◌, length, refl, ap, codes, arith, pos}
use Rattle.lp_format.specs.format.{integer, a_measurement, is_stop, tag, field, comma, newline, space, Text, Pair, above, integer_value_invalid}
use Rattle.lp_format.specs.laws.Meanings.{IsLogical, LongestList, WholeList, NextHasFault, IsBeforeStop, IsBlankFront, IsBlankFront.empty, IsBlankFront.comment, IsBlankFront.blank}
use Rattle.lp_format.proofs.lemmas.meanings.JoinedMeaning.{the_most_is_read}
use Rattle.lp_format.proofs.lemmas.meanings.ShorterRests.{tag_no_longer}
use Rattle.lp_format.proofs.lemmas.names.NameLemmas.{logical_is}
use Rattle.lp_format.proofs.lemmas.line.TrimLemmas.{trimmed_is_longest}
use Rattle.lp_worked.proofs.WorkedTexts.{on_texts, part, read_tag}

-- A backslash escapes a comma of these bytes, so the logical text of `a\,b` is `a,b`.
pub a_comma_is_escaped : IsLogical (comma ∷ []) (codes "a\\,b") (codes "a,b")
unfolding on_texts
a_comma_is_escaped = (logical_is (comma ∷ []) (codes "a\\,b") (codes "a,b")).1 refl

-- If a backslash escapes only commas, the logical text of `a\ b` is not `a b`.
pub a_space_is_not_escaped : ¬ IsLogical (comma ∷ []) (codes "a\\ b") (codes "a b")
unfolding on_texts
a_space_is_not_escaped h =
    let is = (logical_is (comma ∷ []) (codes "a\\ b") (codes "a b")).0 h in
    omega (arith, ap length is)

-- the tags of a text, as a list
abbrev two_tags : List (Pair Text Text)
two_tags = read_tag "a" "1" ∷ read_tag "b" "2" ∷ []

-- Two tags are the whole list at the start of `a=1,b=2 f=1i`.
pub two_tags_are_all : WholeList tag (codes "a=1,b=2 f=1i") two_tags (codes " f=1i")
unfolding on_texts
two_tags_are_all = (the_most_is_read tag (λ text. (tag_no_longer text).holds) (codes "a=1,b=2 f=1i") two_tags (codes " f=1i")).0 refl

-- The two tags of `a=1,b=2 f=1i` are the longest list of tags at its start.
pub two_tags_are_the_most : LongestList tag (codes "a=1,b=2 f=1i") two_tags (codes " f=1i")
two_tags_are_the_most = two_tags_are_all.longest

-- The first tag alone is not the longest list, since a second tag follows it.
pub one_tag_is_not_the_most : ¬ LongestList tag (codes "a=1,b=2 f=1i") (read_tag "a" "1" ∷ []) (codes ",b=2 f=1i")
one_tag_is_not_the_most h = omega (arith, h.most two_tags (codes " f=1i") two_tags_are_the_most.separated)

-- The first tag of `a=1,b=2 f=1i` alone is not the whole list of tags at its start.
pub one_tag_is_not_all : ¬ WholeList tag (codes "a=1,b=2 f=1i") (read_tag "a" "1" ∷ []) (codes ",b=2 f=1i")
one_tag_is_not_all h = one_tag_is_not_the_most h.longest

-- After one field, `,g=9223372036854775808i` has a fault: the integer is too large.
pub the_next_field_has_a_fault : NextHasFault field (record { key = part "f"; value = integer (pos 1) } ∷ []) (codes ",g=9223372036854775808i")
    (integer_value_invalid above (codes "9223372036854775808"))
unfolding on_texts
the_next_field_has_a_fault = (_, refl, refl)

-- After a space no further field is read, so no further field has a fault.
pub no_next_field_has_one : ¬ NextHasFault field (record { key = part "f"; value = integer (pos 1) } ∷ []) (codes " g=9223372036854775808i")
    (integer_value_invalid above (codes "9223372036854775808"))
no_next_field_has_one h = absurd (cc (h.1))

-- The measurement `m` ends before the comma of `m,t=x`.
pub a_name_ends_at_a_comma : IsBeforeStop (is_stop a_measurement) (codes "m") (codes ",t=x")
unfolding on_texts
a_name_ends_at_a_comma = record { none = grind arith; at_stop = (refl, refl) }

-- A measurement does not end before a comma that a backslash escapes, as in `m\,t=x`.
pub an_escaped_comma_ends_none : ¬ IsBeforeStop (is_stop a_measurement) (codes "m\\") (codes ",t=x")
unfolding on_texts
an_escaped_comma_ends_none h = let bare = h.at_stop.0 in absurd (cc)

-- A comment takes all of its line.
pub a_comment_is_blank : IsBlankFront (codes "#c\n ") (codes "m f=1i")
a_comment_is_blank = comment (codes "c") (codes "\n ") (codes "m f=1i") (grind arith) refl (blank newline (codes " ") (codes "m f=1i") refl (blank space [] (codes "m f=1i") refl (empty (codes "m f=1i"))))

-- The measurement is not blank.
pub a_name_is_not_blank : ¬ IsBlankFront (codes " m") (codes " f=1i")
unfolding on_texts
a_name_is_not_blank h = omega (arith, trimmed_is_longest (codes " m f=1i") (codes " ") (codes " m") (codes " f=1i") refl refl h)
