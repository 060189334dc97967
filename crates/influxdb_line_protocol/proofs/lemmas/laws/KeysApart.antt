-- The key of a series fixes it, whatever its names hold, and reads back as it if they are admitted.
use Prim.Native.String.{String}
use Rattle.std.proofs.Common.{◌≡◌, ℕ, ◌++◌, ◌&&◌, ◌<◌, true, false, not, List, [], ◌∷◌, refl, sym, ap, ◌∙◌, arith, None}
use Rattle.std.proofs.Common.{Ordering, is_eq, is_lt, nat_cmp, bytes_eq, codes, Err, Ok, Option, length, map, subst, append_assoc, flat_map, ℤ}
use Rattle.std.specs.{Cmp.Lexicographic.slice_cmp, Ordering.ordering_reverse, List.AllByRecursion, List.filter, List.list_all}
use Rattle.std.specs.List.Sorted.{ties}
use Rattle.std.proofs.lemmas.{Cmp.nat_list_cmp_total, List.Elements.filter_agree, Map.Text.is_eq-slice_cmp}
use Rattle.lp_format.specs.format.{comma, equals, escaped, space, spelling, a_measurement, built_field, built_fields, built_tag, built_timestamp}
use Rattle.lp_format.specs.format.{Field, Pair, Read, Text, line_of, logical_tag, reads}
use Rattle.lp_format.specs.format.{ends_with_backslash, first_bare, is_escaped_after, name, tag, tag_set, without_escapes}
use Rattle.lp_format.specs.format.{Tag, Point, boolean, is_admitted_name, is_admitted_tag, Crate, some_tags}
use Rattle.lp_format.proofs.lemmas.read_back.NameReadsBack.{read_line, read_line_is, read_name, read_tags}
use Rattle.lp_lines.proofs.lemmas.read_back.{LinePieces.admitted_tags, LinePieces.line_parts, LineReadsBack.line_reads_back}
use Rattle.lp_lines.proofs.lemmas.series.KeyParts.{key_parts}
use Rattle.lp_lines.proofs.lemmas.series.SortedByKey.{all_sorted, by_key, same_sorted, stable_sorted}
use Rattle.lp_build.proofs.lemmas.series.ParsedSeries.{read_series_are_parsed}
use Rattle.lp_lines.specs.code.Keys.{series_key, sorted_by}
use Rattle.lp_lines.specs.laws.{BaseLaws.IsParsedSeries, KeyLaws.KeysReadBack, KeyLaws.KeysTellSeries, KeyLaws.tags_with}
use Rattle.lp_written.specs.{code.WrittenKeys.IsAdmittedKey, code.WrittenKeys.IsTag}
use Rattle.lp_written.specs.laws.WrittenKeyLaws.{KeysStandInTexts, LinesBeginWithKeys}

-- the two tests of a tie
tie_tests : (o : Ordering) → (not (is_lt (ordering_reverse o)) && not (is_lt o)) ≡ is_eq o
tie_tests o = grind arith

-- tags tie if they have one key
ties_by_key : (z t : Tag) → ties (by_key (λ (u : Tag). u.key)) z t ≡ bytes_eq t.key z.key
ties_by_key z t = rw (nat_list_cmp_total.antisymm z.key t.key) (tie_tests (slice_cmp nat_cmp t.key z.key)) ∙ is_eq-slice_cmp t.key z.key

-- the tags that tie with one
tags_that_tie : (z : Tag) (ts : List Tag) → filter (ties (by_key (λ (u : Tag). u.key)) z) ts ≡ tags_with z.key ts
tags_that_tie z ts = filter_agree _ _ (ties_by_key z) ts

-- Sorting tags by their keys keeps the tags of each key, in their order.
tags_sorted : (key : List ℕ) (ts : List Tag) → tags_with key (sorted_by (λ t. t.key) ts) ≡ tags_with key ts
tags_sorted key ts =
    let z : Tag = record { key = key; value = [] } in
    sym (tags_that_tie z (sorted_by (λ t. t.key) ts)) ∙ stable_sorted (λ t. t.key) z ts ∙ tags_that_tie z ts

-- Two series have one key exactly if they have the same measurement and, for each tag key, the same tags in the same order.
pub keys_tell_series : KeysTellSeries
unfolding series_key
keys_tell_series m n ts us = (
  λ same. let parts = key_parts m n (sorted_by (λ t. t.key) ts) (sorted_by (λ t. t.key) us) same in
      record {
        measurement_is = parts.0;
        tags_are = λ key. sym (tags_sorted key ts) ∙ ap (tags_with key) parts.1 ∙ tags_sorted key us;
      },
  λ h. let tags = same_sorted (λ (t : Tag). t.key) ts us (λ z. tags_that_tie z ts ∙ h.tags_are z.key ∙ sym (tags_that_tie z us)) in
      let measurement = h.measurement_is in
      cc,
)

-- a point of this series
abbrev point_with : List ℕ → List Tag → Point
point_with m ts = record { measurement = m; tags = ts; fields = record { key = equals ∷ []; value = boolean true } ∷ []; timestamp = None }

-- a key reads back
pub keys_read_back : KeysReadBack
unfolding series_key is_admitted_name
keys_read_back m ts named tagged =
    let sorted = sorted_by (λ (t : Tag). t.key) ts in
    let p = point_with m sorted in
    let read = line_reads_back Crate p (record {
      measurement = named;
      tags = all_sorted (λ (t : Tag). t.key) _ ts (admitted_tags ts tagged);
      fields = ((refl, tt), tt);
      some_field = omega arith;
      timestamp = tt;
    }) in
    let back = read_line_is p in
    record {
      measurement_read = read_name a_measurement m;
      tags_read = some_tags (read_tags sorted);
      parsed = (read_series_are_parsed Crate _ (read_line p) read).0;
      same = record {
        measurement_is = ap (λ (q : Point). q.measurement) back;
        tags_are = λ key. ap (λ (q : Point). tags_with key q.tags) back ∙ tags_sorted key ts;
      };
    }

-- A text that is read to its end as tags has one set of tags.
one_set : (text : List ℕ) (x y : Option (List (Pair Text Text))) → tag_set text ≡ Ok (record { value = x; rest = [] })
    → tag_set text ≡ Ok (record { value = y; rest = [] }) → x ≡ y
one_set text x y h k =
    let same = sym h ∙ k in
    let read : (let r : Read (Option (List (Pair Text Text))) = record { value = x; rest = [] } in r) ≡ record { value = y; rest = [] } = cc in
    ap (λ r. r.value) read

-- A text reads as one series: its measurement and its tags are determined by the text.
one_reading : (text : List ℕ) (m n : Text) (ts us : List (Pair Text Text)) → IsParsedSeries text m ts → IsParsedSeries text n us
    → (m ≡ n) × (ts ≡ us)
one_reading text m n ts us p q =
    let names : reads m p.after ≡ reads n q.after = sym p.measurement_is ∙ q.measurement_is in
    let after : p.after ≡ q.after = cc in
    let sets = one_set p.after p.set q.set p.set_is (ap tag_set after ∙ q.set_is) in
    (cc, sym p.tags_are ∙ ap some_tags sets ∙ q.tags_are)

-- If each tag of a list is admitted, the list passes the test of all tags.
all_admitted : (ts : List Tag) → AllByRecursion IsTag ts → list_all is_admitted_tag ts ≡ true
all_admitted [] all = refl
all_admitted (t ∷ ts) all = rw (all.0, all_admitted ts all.1) refl

-- A key that stands in a text is the key of the series that is read there.
pub keys_stand_in_texts : KeysStandInTexts
keys_stand_in_texts text m ts k read =
    let back = keys_read_back k.measurement k.tags k.named (all_admitted k.tags k.tagged) in
    let parsed = subst (λ (x : List ℕ). IsParsedSeries x back.measurement_read back.tags_read) k.is back.parsed in
    let one = one_reading text m back.measurement_read ts back.tags_read read parsed in
    let same = (keys_tell_series back.measurement_read.bytes k.measurement (map logical_tag back.tags_read) k.tags).1 back.same in
    (λ i. series_key (one.0 i).bytes (map logical_tag (one.1 i))) ∙ same ∙ k.is

-- the fields of a point come after a space
space_first : (fs : List Field) (t : Option ℤ) → 0 < length fs
    → (fields : List ℕ) × (built_fields space fs ++ built_timestamp t ≡ space ∷ fields)
space_first [] t some = absurd (omega arith)
space_first (f ∷ fs) t some = (_, append_assoc (space ∷ built_field f) (built_fields comma fs) (built_timestamp t))

-- the line of a point with sorted tags begins with its key
pub lines_begin_with_keys : LinesBeginWithKeys
unfolding series_key
lines_begin_with_keys p sorted some =
    let after = space_first p.fields p.timestamp some in (
      after.0,
      line_parts p ∙ ap (λ (r : List ℕ). spelling a_measurement p.measurement ++ (flat_map built_tag p.tags ++ r)) after.1
          ∙ sym (append_assoc (spelling a_measurement p.measurement) (flat_map built_tag p.tags) (space ∷ after.0))
          ∙ ap (λ (ts : List Tag). (spelling a_measurement p.measurement ++ flat_map built_tag ts) ++ (space ∷ after.0)) (sym sorted),
    )

-- The tag with this key and this value.
abbrev pair : String → String → Tag
pair key value = record { key = codes key; value = codes value }

-- the order of the tags of a line does not change the key
one_key_for_both_orders : series_key (codes "cpu") (pair "host" "a" ∷ pair "az" "b" ∷ [])
    ≡ series_key (codes "cpu") (pair "az" "b" ∷ pair "host" "a" ∷ [])
unfolding series_key
one_key_for_both_orders = refl

-- the order of the values of one tag key does
a_key_for_each_order_of_values : (series_key (codes "m") (pair "a" "2" ∷ pair "a" "1" ∷ []) ≡ codes "m,a=2,a=1")
    × (series_key (codes "m") (pair "a" "1" ∷ pair "a" "2" ∷ []) ≡ codes "m,a=1,a=2")
unfolding series_key escaped
a_key_for_each_order_of_values = (refl, refl)

-- two series with one base have two keys
two_keys_for_one_base : (series_key (codes "m") (pair "a" "1,b=2" ∷ []) ≡ codes "m,a=1\\,b\\=2")
    × (series_key (codes "m") (pair "a" "1" ∷ pair "b" "2" ∷ []) ≡ codes "m,a=1,b=2")
unfolding series_key escaped
two_keys_for_one_base = (refl, refl)

-- a tab in a name is not admitted: the key tells that series too, but does not read back
a_tab_does_not_read_back : (is_admitted_tag (pair "a" "b\\\tc") ≡ false) × (is_admitted_tag (pair "a" "b\\ c") ≡ true)
    × (series_key (codes "m") (pair "a" "b\\\tc" ∷ []) ≡ codes "m,a=b\\\\\tc")
    × (tag_set (codes ",a=b\\\\\tc") ≡ Err ends_with_backslash)
unfolding series_key escaped is_admitted_name tag name first_bare without_escapes is_escaped_after
a_tab_does_not_read_back = (refl, refl, refl, refl)

-- a point with two tags
abbrev two_tags : Tag → Tag → Point
two_tags t u = point_with (codes "m") (t ∷ u ∷ [])

-- the line of a point whose tags are in order begins with its key
a_line_begins_with_its_key : line_of (two_tags (pair "a" "1") (pair "b" "2"))
    ≡ series_key (codes "m") (pair "a" "1" ∷ pair "b" "2" ∷ []) ++ codes " \\==true"
unfolding series_key escaped line_of
a_line_begins_with_its_key = refl

-- with its tags in another order it does not
a_line_in_another_order_does_not : (line_of (two_tags (pair "b" "2") (pair "a" "1")) ≡ codes "m,b=2,a=1 \\==true")
    × (series_key (codes "m") (pair "b" "2" ∷ pair "a" "1" ∷ []) ≡ codes "m,a=1,b=2")
unfolding series_key escaped line_of
a_line_in_another_order_does_not = (refl, refl)

-- a key stands in a text
a_key_stands : IsAdmittedKey (codes "m,a=1")
unfolding series_key escaped is_admitted_name
a_key_stands = record { measurement = codes "m"; tags = pair "a" "1" ∷ []; named = refl; tagged = (refl, tt); is = refl }

-- a backslash that the builder would write twice is read, and is written so in the key
a_spelling_that_is_no_key : (series_key (codes "m") (pair "a" "x\\y" ∷ []) ≡ codes "m,a=x\\\\y")
unfolding series_key escaped
a_spelling_that_is_no_key = refl
