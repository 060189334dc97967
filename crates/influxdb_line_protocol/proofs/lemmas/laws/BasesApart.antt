-- If names hold none of the bytes that part a base, the base fixes the series; bases that are safe to group by tell their series.
use Rattle.std.proofs.Common.{◌≡◌, ℕ, ◌+◌, Bool, true, false, List, [], ◌∷◌, ◌++◌, ◌||◌, length, take, drop, refl, sym, ap, ◌∙◌, subst}
use Rattle.std.proofs.Common.{append_assoc, arith, ◌==◌, flat_map, IsPermutation, take-append-drop, eq-eqb, ne_eqb}
use Rattle.std.specs.List.{list_any}
use Rattle.std.proofs.lemmas.{List.Folds.list_any-append, Bool.cases_Bool, Bool.false≢true, Bool.or_from, Bool.or_parts, Bool.not-true}
use Rattle.std.proofs.lemmas.List.Sorted.{IsPermutation-sym, IsPermutation-trans, list_any-IsPermutation}
use Rattle.lp_lines.specs.laws.BaseLaws.{OneBaseIsOneSeries, PlainSeriesAreClear, is_tag_delimited, is_tag_one_escape, spelled_tags}
use Rattle.lp_lines.specs.laws.BaseLaws.{IsParsedSeries, SafeBasesTellSeries, SameSeriesAreSafeAlike, has_one_escape, is_delimited}
use Rattle.lp_lines.specs.code.Bases.{base_text, based_tag, by_key, in_order, is_ambiguous_name, is_ambiguous_tag, is_base_safe}
use Rattle.lp_format.specs.format.{backslash, comma, equals, is_one_of, without_escapes, tag, NameKind, a_measurement, a_tag_key}
use Rattle.lp_format.specs.format.{a_tag_value, escapable, is_one_escape, is_stop, spelled, spelled_len, read_text, Pair, Text, reads}
use Rattle.lp_format.specs.laws.Meanings.{SeparatedAfterComma}
use Rattle.lp_format.proofs.lemmas.names.NameLemmas.{without_escapes_same, no_backslash}
use Rattle.lp_values.proofs.lemmas.fields.ReadingLemmas.{name_parts}
use Rattle.lp_split.proofs.lemmas.split.ScanLemmas.{bare_len, first_bare_len}
use Rattle.lp_lines.proofs.lemmas.series.SortedTags.{by_key_placed}
use Rattle.lp_lines.proofs.lemmas.series.KeyParts.{Begins}
use Rattle.lp_lines.proofs.lemmas.series.BasesTellSeries.{base_is, tag_parts, tags_separated, value_part, same_series_have_one_base}

-- A text that begins with a byte does not begin with a part in which the byte does not occur.
no_other : (c y : ℕ) (ys us vs : List ℕ) → is_one_of (y ∷ ys) c ≡ false → Begins c us → us ≡ y ∷ ys ++ vs → ⊥
no_other c y ys [] vs none begins e = cc
no_other c y ys (u ∷ us) vs none begins e = grind (arith, false≢true, or_parts, eq-eqb)

-- The first occurrence of a byte fixes the part of the text before it.
first_part : (c : ℕ) (xs ys us vs : List ℕ) → is_one_of xs c ≡ false → is_one_of ys c ≡ false → Begins c us → Begins c vs
    → xs ++ us ≡ ys ++ vs → (xs ≡ ys) × (us ≡ vs)
first_part c [] [] us vs h k p q e = (refl, e)
first_part c [] (y ∷ ys) us vs h k p q e = absurd (no_other c y ys us vs k p e)
first_part c (x ∷ xs) [] us vs h k p q e = absurd (no_other c x xs vs us h q (sym e))
first_part c (x ∷ xs) (y ∷ ys) us vs h k p q e =
    let first : x ≡ y = cc in
    let after : xs ++ us ≡ ys ++ vs = cc in
    let more = first_part c xs ys us vs (or_parts (x == c) (is_one_of xs c) h).1 (or_parts (y == c) (is_one_of ys c) k).1 p q after in
    (cc (first, more.0), more.1)

-- whether the key of an entry holds an `=`, or its value a comma
abbrev is_parted : List ℕ × List ℕ → Bool
is_parted e = is_one_of e.0 equals || is_one_of e.1 comma

-- tags as they are in a base begin with a comma
tags_begin : (es : List (List ℕ × List ℕ)) → Begins comma (flat_map based_tag es)
tags_begin [] = tt
tags_begin (e ∷ es) = refl

-- the text of tags fixes them
same_tags : (es fs : List (List ℕ × List ℕ)) → list_any is_parted es ≡ false → list_any is_parted fs ≡ false
    → flat_map based_tag es ≡ flat_map based_tag fs → es ≡ fs
same_tags [] [] h k same = refl
same_tags [] (f ∷ fs) h k same = absurd (cc)
same_tags (e ∷ es) [] h k same = absurd (cc)
same_tags ((a, b) ∷ es) ((c, d) ∷ fs) h k same =
    let one = or_parts (is_parted (a, b)) (list_any is_parted es) h in
    let other = or_parts (is_parted (c, d)) (list_any is_parted fs) k in
    let left = or_parts (is_one_of a equals) (is_one_of b comma) one.0 in
    let right = or_parts (is_one_of c equals) (is_one_of d comma) other.0 in
    let inner : (a ++ equals ∷ b) ++ flat_map based_tag es ≡ (c ++ equals ∷ d) ++ flat_map based_tag fs = cc in
    let whole : a ++ (equals ∷ b ++ flat_map based_tag es) ≡ c ++ (equals ∷ d ++ flat_map based_tag fs) =
    sym (append_assoc a (equals ∷ b) (flat_map based_tag es)) ∙ inner ∙ append_assoc c (equals ∷ d) (flat_map based_tag fs) in
    let keys = first_part equals a c (equals ∷ b ++ flat_map based_tag es) (equals ∷ d ++ flat_map based_tag fs) left.0
    right.0 refl refl whole in
    let after : b ++ flat_map based_tag es ≡ d ++ flat_map based_tag fs = let k = keys.1 in cc in
    let values = first_part comma b d (flat_map based_tag es) (flat_map based_tag fs) left.1 right.1
    (tags_begin es) (tags_begin fs) after in
    cc (keys.0, values.0, same_tags es fs one.1 other.1 values.1)

-- A test of keys and values holds for some tag exactly if it holds for some entry of the tags in order.
same_test : (p : List ℕ × List ℕ → Bool) (tags : List (Pair Text Text))
    → list_any p (in_order tags) ≡ list_any (λ t. p (t.key.bytes, t.value.bytes)) tags
same_test p [] = refl
same_test p (t ∷ tags) = ap (λ (b : Bool). p (t.key.bytes, t.value.bytes) || b) (same_test p tags)

-- a base text fixes the measurement and the tags
same_parts : (m n : List ℕ) (es fs : List (List ℕ × List ℕ)) → is_one_of m comma ≡ false → is_one_of n comma ≡ false
    → list_any is_parted es ≡ false → list_any is_parted fs ≡ false → base_text m es ≡ base_text n fs → (m ≡ n) × (es ≡ fs)
same_parts m n es fs h k p q same = grind (arith, first_part, tags_begin, same_tags)

-- Two clear series with one base are one series, if no delimiter is in their names.
pub one_base_is_one_series : OneBaseIsOneSeries
one_base_is_one_series raw text m other tags others h k p q same =
    let left = or_parts (is_one_of m.bytes comma) (list_any is_tag_delimited tags) p in
    let right = or_parts (is_one_of other.bytes comma) (list_any is_tag_delimited others) q in
    let one = (by_key_placed tags h.repeats_none).0 in
    let two = (by_key_placed others k.repeats_none).0 in
    let bases = sym (base_is raw m tags h) ∙ same ∙ base_is text other others k in
    let parts = same_parts m.bytes other.bytes (by_key tags) (by_key others) left.0 right.0
    (sym (list_any-IsPermutation is_parted (in_order tags) (by_key tags) one) ∙ same_test is_parted tags ∙ left.1)
    (sym (list_any-IsPermutation is_parted (in_order others) (by_key others) two) ∙ same_test is_parted others ∙ right.1) cc in
    let back : IsPermutation (by_key tags) (in_order others) =
    subst (λ (es : List (List ℕ × List ℕ)). IsPermutation es (in_order others)) (sym parts.1)
    (IsPermutation-sym (in_order others) (by_key others) two) in
    record { measurement_is = parts.0; tags_are = IsPermutation-trans (in_order tags) (by_key tags) (in_order others) one back }

-- A byte that a text does not hold is in neither part of the text.
none_in_parts : (c n : ℕ) (text : List ℕ) → is_one_of text c ≡ false
    → (is_one_of (take n text) c ≡ false) × (is_one_of (drop n text) c ≡ false)
none_in_parts c n text none = or_parts (is_one_of (take n text) c) (is_one_of (drop n text) c)
    (sym (list_any-append (λ b. b == c) (take n text) (drop n text)) ∙ ap (λ xs. is_one_of xs c) (take-append-drop n text) ∙ none)

-- In a text without a backslash, the part before the first bare byte that passes a test does not hold a byte that passes it.
none_before : (passes : ℕ → Bool) (c : ℕ) (text : List ℕ) → passes c ≡ true → is_one_of text backslash ≡ false
    → is_one_of (take (bare_len passes false text) text) c ≡ false
none_before passes c [] hit none = refl
none_before passes c (b ∷ text) hit none =
    let parts = or_parts (b == backslash) (is_one_of text backslash) none in
    grind (arith, cases_Bool, false≢true, ne_eqb, none_before passes c text hit parts.1)

-- a name without a backslash holds none of the bytes that end it
no_stop : (kind : NameKind) (c : ℕ) (text : List ℕ) → is_stop kind c ≡ true → is_one_of text backslash ≡ false
    → is_one_of (spelled kind text) c ≡ false
no_stop kind c text hit none = grind (arith, first_bare_len, none_before)

-- a name that is spelled as no escape alone, and that does not hold the byte that divides
abbrev IsClearName : NameKind → ℕ → List ℕ → Text → Type 0
IsClearName kind divider text t = (is_one_escape (escapable kind) (spelled kind text) ≡ false) × (is_one_of t.bytes divider ≡ false)

-- Facts about tags and their text show that both names of the first tag are clear, and they hold for the other tags.
abbrev ShowsClear : (List (Pair Text Text) → List ℕ → Type 0) → Type 0
ShowsClear Known = (t : Pair Text Text) (tags : List (Pair Text Text)) (suffix after : List ℕ) → Known (t ∷ tags) (comma ∷ suffix)
    → tag suffix ≡ reads t after
    → IsClearName a_tag_key equals suffix t.key × IsClearName a_tag_value comma (value_part suffix) t.value × Known tags after

-- All tags are clear if the known facts show that each of them is.
tags_clear : (Known : List (Pair Text Text) → List ℕ → Type 0) → ShowsClear Known → (tags : List (Pair Text Text)) (text : List ℕ)
    → SeparatedAfterComma tag tags text [] → Known tags text
    → (list_any is_tag_one_escape (spelled_tags (length tags) text) ≡ false) × (list_any is_tag_delimited tags ≡ false)
tags_clear Known shows [] text h known = (refl, refl)
tags_clear Known shows (t ∷ tags) text h known =
    let s = shows t tags h.0 h.1 (subst (Known (t ∷ tags)) h.2 known) h.3 in
    let more = tags_clear Known shows tags h.1 h.4 s.2 in
    let p = tag_parts h.0 t h.1 h.3 in
    grind (arith, or_from)

-- a series is clear if its measurement and its tags are
series_clear : (Known : List (Pair Text Text) → List ℕ → Type 0) → ShowsClear Known
    → (raw : List ℕ) (m : Text) (tags : List (Pair Text Text)) (h : IsParsedSeries raw m tags)
    → IsClearName a_measurement comma raw m → Known tags h.after
    → (has_one_escape raw (length tags) ≡ false) × (is_delimited m tags ≡ false)
series_clear Known shows raw m tags h first known =
    let p = name_parts a_measurement raw m h.after h.measurement_is in
    let more = tags_clear Known shows tags h.after (tags_separated h) known in
    grind (arith, or_from)

-- a name without a backslash is clear
plain_is_clear : (kind : NameKind) (divider : ℕ) (text : List ℕ) (t : Text) → t ≡ read_text (escapable kind) (spelled kind text)
    → is_stop kind divider ≡ true → is_one_of text backslash ≡ false → IsClearName kind divider text t
plain_is_clear kind divider text t is stop none = grind (arith, none_in_parts, without_escapes_same, no_backslash, no_stop, or_parts)

-- tags without a backslash are clear
plain_shows : ShowsClear (λ tags text. is_one_of text backslash ≡ false)
plain_shows t tags suffix after none e =
    let p = tag_parts suffix t after e in
    let v = value_part suffix in
    let there : is_one_of v backslash ≡ false = (none_in_parts backslash (spelled_len a_tag_key suffix + 1) suffix none).1 in (
      plain_is_clear a_tag_key equals suffix t.key p.key_is refl none,
      plain_is_clear a_tag_value comma v t.value p.value_is refl there,
      ap (λ (r : List ℕ). is_one_of r backslash) p.rest_is ∙ (none_in_parts backslash (spelled_len a_tag_value v) v there).1,
    )

-- a series without a backslash is clear
pub plain_series_are_clear : PlainSeriesAreClear
plain_series_are_clear raw m tags none h =
    let p = name_parts a_measurement raw m h.after h.measurement_is in
    let after = ap (λ (r : List ℕ). is_one_of r backslash) p.1 ∙ (none_in_parts backslash (spelled_len a_measurement raw) raw none).1 in
    series_clear (λ tags text. is_one_of text backslash ≡ false) plain_shows raw m tags h
    (plain_is_clear a_measurement comma raw m p.0 refl none) after

-- a name that is read and is not ambiguous: it is spelled as no escape alone, and does not hold the byte that divides
name_apart : (kind : NameKind) (divider : ℕ) (text : List ℕ) (t : Text) → t ≡ read_text (escapable kind) (spelled kind text)
    → is_ambiguous_name (escapable kind) divider t.bytes ≡ false
    → IsClearName kind divider text t
unfolding without_escapes
name_apart kind divider text t is clear = grind (arith, or_parts, cases_Bool, false≢true)

-- tags that are not ambiguous are clear
apart_shows : ShowsClear (λ tags text. list_any is_ambiguous_tag tags ≡ false)
apart_shows t tags suffix after clear e =
    let p = tag_parts suffix t after e in
    let both = or_parts (is_ambiguous_tag t) (list_any is_ambiguous_tag tags) clear in
    let names = or_parts (is_ambiguous_name (escapable a_tag_key) equals t.key.bytes)
    (is_ambiguous_name (escapable a_tag_value) comma t.value.bytes) both.0 in (
      name_apart a_tag_key equals suffix t.key p.key_is names.0,
      name_apart a_tag_value comma (value_part suffix) t.value p.value_is names.1,
      both.1,
    )

-- a parsed series whose base is safe is clear, and none of its names is delimited
safe_is_clear : (raw : List ℕ) (m : Text) (tags : List (Pair Text Text)) → IsParsedSeries raw m tags
    → is_base_safe m tags ≡ true → (has_one_escape raw (length tags) ≡ false) × (is_delimited m tags ≡ false)
safe_is_clear raw m tags h safe =
    let apart = or_parts (is_ambiguous_name (escapable a_measurement) comma m.bytes) (list_any is_ambiguous_tag tags)
    (not-true (is_ambiguous_name (escapable a_measurement) comma m.bytes || list_any is_ambiguous_tag tags) safe) in
    series_clear (λ tags text. list_any is_ambiguous_tag tags ≡ false) apart_shows raw m tags h
    (name_apart a_measurement comma raw m (name_parts a_measurement raw m h.after h.measurement_is).0 apart.0) apart.1

-- safe bases are the same for the same series alone
pub safe_bases_tell_series : SafeBasesTellSeries
safe_bases_tell_series raw text m other tags others h k once alone safe sound = grind (arith, safe_is_clear, one_base_is_one_series, same_series_have_one_base)

-- whether the key or the value of an entry is ambiguous
abbrev is_ambiguous_entry : List ℕ × List ℕ → Bool
is_ambiguous_entry e = is_ambiguous_name (escapable a_tag_key) equals e.0 || is_ambiguous_name (escapable a_tag_value) comma e.1

-- a base is safe whatever the order of the tags
pub same_series_are_safe_alike : SameSeriesAreSafeAlike
same_series_are_safe_alike m other tags others same = grind (arith, same_test is_ambiguous_entry, list_any-IsPermutation)
