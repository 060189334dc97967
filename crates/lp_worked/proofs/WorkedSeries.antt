-- Worked lines about bases and keys of series: an example that each relation covers, and one just outside.
use Rattle.std.proofs.Common.{◌≡◌, ℕ, List, [], ◌∷◌, length, false, Option, Some, Result, Ok, Err, refl, sym, ap, ◌∙◌, codes, arith}
use Rattle.lp_format.specs.format.{Text, Pair, Read, Fault, tag_set}
use Rattle.lp_lines.specs.code.Bases.{first_repeated}
use Rattle.std.specs.Prelude.{slice_index}
use Rattle.std.proofs.lemmas.List.Sorted.{IsPermutation-middle}
use Rattle.lp_lines.specs.code.Keys.{series_key}
use Rattle.lp_lines.specs.laws.BaseLaws.{IsParsedSeries, IsClearSeries, IsSameSeries}
use Rattle.lp_lines.specs.laws.KeyLaws.{IsSameByKeys, ReadsAsSeries}
use Rattle.lp_written.specs.code.WrittenKeys.{IsAdmittedKey}
use Rattle.influxdb_line_protocol.proofs.lemmas.laws.KeysApart.{keys_read_back, keys_stand_in_texts, keys_tell_series}
use Rattle.lp_worked.proofs.WorkedTexts.{on_texts, part, read_tag, tag_of}

-- The text `m,a=1` is a series: nothing is left of it.
pub a_series_is_parsed : IsParsedSeries (codes "m,a=1") (part "m") (read_tag "a" "1" ∷ [])
unfolding on_texts
a_series_is_parsed = record { after = codes ",a=1"; set = Some (read_tag "a" "1" ∷ []); measurement_is = refl; set_is = refl; tags_are = refl }

-- how much is left after a set of tags
abbrev rest_len : Result (Read (Option (List (Pair Text Text)))) Fault → ℕ
rest_len (Ok r) = length r.rest
rest_len (Err e) = 100

-- The text `m,a=1 f=1i` is none, since the fields are left.
pub a_line_is_no_series : ¬ IsParsedSeries (codes "m,a=1 f=1i") (part "m") (read_tag "a" "1" ∷ [])
unfolding on_texts
a_line_is_no_series h =
    let named = h.measurement_is in
    let after : h.after ≡ codes ",a=1 f=1i" = cc in
    omega (arith, ap (λ (t : List ℕ). rest_len (tag_set t)) (sym after) ∙ ap rest_len h.set_is)

-- The series `m,a=1` repeats no key and spells no name as one escape alone.
pub a_series_is_clear : IsClearSeries (codes "m,a=1") (part "m") (read_tag "a" "1" ∷ [])
unfolding on_texts first_repeated
a_series_is_clear = record { parsed = a_series_is_parsed; repeats_none = refl; no_escape_alone = refl }

-- The series `m,a=1,a=2` repeats the key `a`.
pub a_repeated_key_is_not_clear : ¬ IsClearSeries (codes "m,a=1,a=2") (part "m") (read_tag "a" "1" ∷ read_tag "a" "2" ∷ [])
unfolding first_repeated
a_repeated_key_is_not_clear h = omega (arith, h.repeats_none)

-- the tag `a=1` as the entry of a base
abbrev of_a : List ℕ × List ℕ
of_a = (codes "a", codes "1")

-- The order of the tags does not make another series.
pub tags_in_any_order : IsSameSeries (part "m") (part "m") (read_tag "a" "1" ∷ read_tag "b" "2" ∷ []) (read_tag "b" "2" ∷ read_tag "a" "1" ∷ [])
tags_in_any_order = record { measurement_is = refl; tags_are = IsPermutation-middle (of_a ∷ []) (codes "b", codes "2") [] }

-- Another measurement does.
pub another_measurement : ¬ IsSameSeries (part "m") (part "mm") (read_tag "a" "1" ∷ []) (read_tag "a" "1" ∷ [])
another_measurement h = omega (arith, ap length h.measurement_is)

-- The series `m,a=1,b=2` and `m,b=2,a=1` are the same series by their keys.
pub one_key_in_any_order : IsSameByKeys (codes "m") (codes "m") (tag_of "a" "1" ∷ tag_of "b" "2" ∷ []) (tag_of "b" "2" ∷ tag_of "a" "1" ∷ [])
unfolding on_texts series_key
one_key_in_any_order = (keys_tell_series (codes "m") (codes "m") _ _).0 refl

-- `m,a=1,a=2` and `m,a=2,a=1` are two: the values of one tag key stand in another order.
pub two_keys_for_two_orders : ¬ IsSameByKeys (codes "m") (codes "m") (tag_of "a" "1" ∷ tag_of "a" "2" ∷ []) (tag_of "a" "2" ∷ tag_of "a" "1" ∷ [])
unfolding on_texts series_key
two_keys_for_two_orders h = omega (arith, ap (λ (t : List ℕ). slice_index t 4) ((keys_tell_series (codes "m") (codes "m") _ _).1 h))

-- The key `m,a=1` reads back as the series that has this key.
pub a_key_reads_back : ReadsAsSeries (codes "m,a=1") (codes "m") (tag_of "a" "1" ∷ [])
unfolding on_texts series_key
a_key_reads_back = keys_read_back (codes "m") (tag_of "a" "1" ∷ []) refl refl

-- The text `m,a=1\` reads as no series, since no tag value ends in a backslash.
pub a_backslash_reads_as_none : ¬ ReadsAsSeries (codes "m,a=1\\") (codes "m") (tag_of "a" "1\\" ∷ [])
unfolding on_texts
a_backslash_reads_as_none h =
    let named = h.parsed.measurement_is in
    let after : h.parsed.after ≡ codes ",a=1\\" = cc in
    omega (arith, ap (λ (t : List ℕ). rest_len (tag_set t)) (sym after) ∙ ap rest_len h.parsed.set_is)

-- The builder writes the key `m,a=x\\y`.
pub a_key_is_admitted : IsAdmittedKey (codes "m,a=x\\\\y")
unfolding on_texts series_key
a_key_is_admitted = record { measurement = codes "m"; tags = tag_of "a" "x\\y" ∷ []; named = refl; tagged = (refl, tt); is = refl }

-- the tag of `a=x\y`, whose value is a copy
abbrev read_x : Pair Text Text
read_x = record { key = part "a"; value = record { bytes = codes "x\\y"; is_single = false } }

-- The text `m,a=x\y` is not the key of a series, although it reads as a series.
pub a_spelling_is_no_key : ¬ IsAdmittedKey (codes "m,a=x\\y")
unfolding on_texts series_key
a_spelling_is_no_key h =
    let parsed : IsParsedSeries (codes "m,a=x\\y") (part "m") (read_x ∷ [])
    = record { after = codes ",a=x\\y"; set = Some (read_x ∷ []); measurement_is = refl; set_is = refl; tags_are = refl } in
    omega (arith, ap length (keys_stand_in_texts (codes "m,a=x\\y") (part "m") (read_x ∷ []) h parsed))
