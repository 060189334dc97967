-- Bases tell parsed series from one another.
use Rattle.std.proofs.Common.{◌≡◌, ℕ, ◌+◌, true, false, List, [], ◌∷◌, ◌++◌, ◌&&◌, length, drop, sym, ap, ◌∙◌}
use Rattle.std.proofs.Common.{append_assoc, Some, arith, flat_map, is_some, eq-eqb, drop-drop, take-append-drop}
use Rattle.std.specs.List.{list_all, list_any}
use Rattle.std.proofs.lemmas.Bool.{and_parts, cases_Bool, false≢true, not-true, or_cases, or_parts}
use Rattle.lp_lines.specs.laws.BaseLaws.{IsClearSeries, IsParsedSeries, ClearSeriesHaveBases, SameSeriesHaveOneBase, base_bytes}
use Rattle.lp_lines.specs.laws.BaseLaws.{is_tag_one_escape, spelled_tags}
use Rattle.lp_lines.specs.code.Bases.{base_by_key, base_of, base_text, based_tag, by_key, first_repeated, in_order}
use Rattle.lp_events.specs.code.OwnBases.{keys_of}
use Rattle.lp_format.specs.code.Light.{is_single_tag}
use Rattle.lp_format.specs.format.{equals, tag, NameKind, a_measurement, a_tag_key, a_tag_value, escapable}
use Rattle.lp_format.specs.format.{is_one_escape, name, read_text, spelled, spelled_len, Pair, Text, reads}
use Rattle.lp_format.specs.laws.Meanings.{SeparatedAfterComma}
use Rattle.lp_format.proofs.lemmas.names.NameLemmas.{without_escapes_same, no_backslash}
use Rattle.lp_values.proofs.lemmas.fields.ReadingLemmas.{name_parts, pair_parts}
use Rattle.lp_events.proofs.lemmas.fields.ManyLemmas.{set_separated}
use Rattle.lp_lines.proofs.lemmas.series.SortedTags.{by_key_in_order, by_key_same}

-- a name that is a part of the text, and is not spelled as one escape, is its own spelling
single_same : (kind : NameKind) (text : List ℕ) (x : Text) → x ≡ read_text (escapable kind) (spelled kind text)
    → is_one_escape (escapable kind) (spelled kind text) ≡ false → x.is_single ≡ true → x.bytes ≡ spelled kind text
single_same kind text x is apart single = grind (arith, or_cases, false≢true, without_escapes_same, no_backslash, not-true)

-- the text after the key and the equals sign of a tag
abbrev pub value_part : List ℕ → List ℕ
value_part text = drop (spelled_len a_tag_key text + 1) text

-- the readings of a tag: its key, its value and the rest, by their spellings
pub record TagParts (text : List ℕ) (x : Pair Text Text) (rest : List ℕ) : Type 0 where
  pub key_is : x.key ≡ read_text (escapable a_tag_key) (spelled a_tag_key text)
  pub value_is : x.value ≡ read_text (escapable a_tag_value) (spelled a_tag_value (value_part text))
  pub rest_is : rest ≡ drop (spelled_len a_tag_value (value_part text)) (value_part text)
  pub text_is : text ≡ spelled a_tag_key text ++ equals ∷ value_part text

-- a tag that is read is a key, an equals sign and a value
pub tag_parts : (text : List ℕ) (x : Pair Text Text) (rest : List ℕ) → tag text ≡ reads x rest → TagParts text x rest
unfolding tag
tag_parts text x rest e =
    let p = pair_parts a_tag_key (name a_tag_value) text x rest e in
    let key = name_parts a_tag_key text x.key (equals ∷ p.mid) p.key in
    let value = name_parts a_tag_value p.mid x.value rest p.value in
    let past : value_part text ≡ p.mid = sym (drop-drop 1 (spelled_len a_tag_key text) text)
    ∙ ap (λ (r : List ℕ). drop 1 r) (sym key.1) in
    grind (arith, take-append-drop)

-- the text of tags that are parts of the text, and not spelled as one escape, is the text of the tags in a base
spells : (tags : List (Pair Text Text)) (text : List ℕ) → SeparatedAfterComma tag tags text []
    → list_any is_tag_one_escape (spelled_tags (length tags) text) ≡ false → list_all is_single_tag tags ≡ true
    → text ≡ flat_map based_tag (in_order tags)
spells [] text h apart single = h
spells (t ∷ tags) text h apart single =
    let p = tag_parts h.0 t h.1 h.3 in
    let key = single_same a_tag_key h.0 t.key p.key_is in
    let value = single_same a_tag_value (value_part h.0) t.value p.value_is in
    let more = spells tags h.1 h.4 in
    grind (arith, or_parts, and_parts, append_assoc, take-append-drop)

-- the tags of a parsed series come after its measurement
pub tags_separated : {raw : List ℕ} {m : Text} {tags : List (Pair Text Text)} (h : IsParsedSeries raw m tags)
    → SeparatedAfterComma tag tags h.after []
tags_separated h = rw (← h.tags_are) (set_separated h.after [] h.set h.set_is)

-- the raw text of a clear series whose names are parts of it is the text of its base
raw_is : (raw : List ℕ) (m : Text) (tags : List (Pair Text Text)) → IsClearSeries raw m tags
    → (m.is_single && list_all is_single_tag tags) ≡ true
    → raw ≡ base_text m.bytes (in_order tags)
raw_is raw m tags h single =
    let p = name_parts a_measurement raw m h.parsed.after h.parsed.measurement_is in
    let name = single_same a_measurement raw m p.0 in
    let more = spells tags h.parsed.after (tags_separated h.parsed) in
    grind (arith, or_parts, and_parts, take-append-drop)

-- the base of a clear series is the text of its measurement and of its tags by their keys
pub base_is : (raw : List ℕ) (m : Text) (tags : List (Pair Text Text)) → IsClearSeries raw m tags
    → base_bytes (base_of raw m tags) ≡ Some (base_text m.bytes (by_key tags))
unfolding base_of base_by_key
base_is raw m tags h =
    let once = eq-eqb (first_repeated (keys_of tags)) (length tags) h.repeats_none in
    let sorted = by_key_in_order tags h.repeats_none in
    let spelled_so = raw_is raw m tags h in
    grind (arith, cases_Bool)

-- each clear series has a base
pub clear_series_have_bases : ClearSeriesHaveBases
clear_series_have_bases raw m tags h = ap is_some (base_is raw m tags h)

-- equal series have one base, in whatever order their tags are
pub same_series_have_one_base : SameSeriesHaveOneBase
same_series_have_one_base raw text m other tags others h k same = grind (arith, base_is, by_key_same)
