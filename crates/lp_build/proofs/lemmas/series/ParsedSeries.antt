-- The series of each line that is read is a parsed one.
use Rattle.std.proofs.Common.{◌≡◌, ℕ, zero, suc, ◌≤◌, List, [], ◌∷◌, ◌++◌, length, drop, refl, sym, ap, ◌∙◌, subst, arith, append_assoc}
use Rattle.std.proofs.Common.{Option, Some, None, Ok, take-append-drop}
use Rattle.std.proofs.lemmas.{Bool.cases_Bool, List.append_cancel_left}
use Rattle.lp_lines.specs.laws.BaseLaws.{IsParsedSeries, ReadSeriesAreParsed}
use Rattle.lp_format.specs.format.{after_comma, many, some_tags, tag, tag_set, NameKind, a_measurement, a_tag_key, a_tag_value, name}
use Rattle.lp_format.specs.format.{spelled, spelled_len, Pair, Reading, Text, reads, comma, equals}
use Rattle.lp_format.specs.laws.Meanings.{SeparatedAfterComma}
use Rattle.lp_events.proofs.lemmas.fields.ManyLemmas.{set_separated}
use Rattle.lp_lines.proofs.lemmas.{read_back.LineReadsBack.front_is, names.ParsedNames.answer_parts}
use Rattle.lp_values.proofs.lemmas.fields.ReadingLemmas.{name_parts, pair_parts, reads_parts}
use Rattle.lp_format.proofs.lemmas.meanings.ShorterRests.{tag_no_longer}
use Rattle.lp_split.proofs.lemmas.split.ScanLemmas.{before_stop}

-- a front of the text was read, and it reads the same wherever the text after it is cut
record ReadsCut {A : Type 0} (one : List ℕ → Reading A) (text : List ℕ) (x : A) (rest : List ℕ) : Type 0 where
  front : List ℕ
  is : text ≡ front ++ rest
  again : (kept lost : List ℕ) → rest ≡ kept ++ lost → one (front ++ kept) ≡ reads x kept

-- a name is spelled as it was if the text after it is cut
spelled_cut : (kind : NameKind) (front kept lost : List ℕ) → spelled kind (front ++ (kept ++ lost)) ≡ front
    → spelled kind (front ++ kept) ≡ front
spelled_cut kind front kept lost h = grind (arith, before_stop)

-- Two texts with the same spelling of a name read to the same name.
name_same : (kind : NameKind) (text other : List ℕ) (t : Text) (rest : List ℕ) → name kind text ≡ reads t rest
    → spelled kind other ≡ spelled kind text
    → name kind other ≡ reads t (drop (spelled_len kind other) other)
unfolding name
name_same kind text other t rest e same = grind (arith, cases_Bool, reads_parts)

-- a name before a text that is cut
name_kept : (kind : NameKind) (text : List ℕ) (t : Text) (rest : List ℕ) → name kind text ≡ reads t rest → text ≡ spelled kind text ++ rest
    → (kept lost : List ℕ) → rest ≡ kept ++ lost → name kind (spelled kind text ++ kept) ≡ reads t kept
name_kept kind text t rest e is kept lost at =
    let front = spelled kind text in
    let whole : front ++ (kept ++ lost) ≡ text = sym (is ∙ ap (λ (r : List ℕ). front ++ r) at) in
    let same = spelled_cut kind front kept lost (ap (spelled kind) whole) in
    let n = spelled_len kind (front ++ kept) in
    let after = ap (λ (r : List ℕ). r ++ drop n (front ++ kept)) (sym same) ∙ take-append-drop n (front ++ kept) in
    name_same kind text (front ++ kept) t rest e same
    ∙ ap (λ (r : List ℕ). reads t r) (append_cancel_left front (drop n (front ++ kept)) kept after)

-- a name reads the same wherever the text after it is cut
name_cut : (kind : NameKind) (text : List ℕ) (t : Text) (rest : List ℕ) → name kind text ≡ reads t rest → ReadsCut (name kind) text t rest
name_cut kind text t rest e =
    let after = (name_parts kind text t rest e).1 in
    let is : text ≡ spelled kind text ++ rest =
    sym (take-append-drop (spelled_len kind text) text) ∙ ap (λ (r : List ℕ). spelled kind text ++ r) (sym after) in
    record { front = spelled kind text; is = is; again = λ kept lost at. name_kept kind text t rest e is kept lost at }

-- a tag reads the same wherever the text after it is cut
tag_cut : (text : List ℕ) (x : Pair Text Text) (rest : List ℕ) → tag text ≡ reads x rest → ReadsCut tag text x rest
unfolding tag
tag_cut text x rest e =
    let p = pair_parts a_tag_key (name a_tag_value) text x rest e in
    let key = name_cut a_tag_key text x.key (equals ∷ p.mid) p.key in
    let value = name_cut a_tag_value p.mid x.value rest p.value in
    let left : equals ∷ p.mid ≡ (equals ∷ value.front) ++ rest = ap (λ (r : List ℕ). equals ∷ r) value.is in
    record {
      front = key.front ++ equals ∷ value.front;
      is = key.is ∙ ap (λ (r : List ℕ). key.front ++ r) left ∙ sym (append_assoc key.front (equals ∷ value.front) rest);
      again = λ kept lost at.
          let cut : equals ∷ p.mid ≡ (equals ∷ value.front ++ kept) ++ lost =
          left ∙ ap (λ (r : List ℕ). (equals ∷ value.front) ++ r) at ∙ sym (append_assoc (equals ∷ value.front) kept lost) in
          ap tag (append_assoc key.front (equals ∷ value.front) kept)
          ∙ rw (key.again (equals ∷ value.front ++ kept) lost cut, value.again kept lost at) refl;
    }

-- a front of the text with these tags, each after a comma, and nothing after them
record SeparatedCut (tags : List (Pair Text Text)) (text rest : List ℕ) : Type 0 where
  front : List ℕ
  is : text ≡ front ++ rest
  separated : SeparatedAfterComma tag tags front []

-- Tags that are read after commas are in a front of the text.
separated_cut : (tags : List (Pair Text Text)) (text rest : List ℕ) → SeparatedAfterComma tag tags text rest → SeparatedCut tags text rest
separated_cut [] text rest h = record { front = []; is = h; separated = refl }
separated_cut (t ∷ tags) text rest h =
    let first = tag_cut h.0 t h.1 h.3 in
    let more = separated_cut tags h.1 rest h.4 in
    let split : h.0 ≡ (first.front ++ more.front) ++ rest =
    first.is ∙ ap (λ (r : List ℕ). first.front ++ r) more.is ∙ sym (append_assoc first.front more.front rest) in
    record {
      front = comma ∷ first.front ++ more.front;
      is = h.2 ∙ ap (λ (r : List ℕ). comma ∷ r) split;
      separated = (first.front ++ more.front, more.front, refl, first.again more.front rest more.is, more.separated);
    }

-- tags up to the end of the text are read
many_read : (n : ℕ) (tags : List (Pair Text Text)) (text : List ℕ) → SeparatedAfterComma tag tags text [] → length text ≤ n
    → many (after_comma tag) n text ≡ reads tags []
many_read zero [] text h room = ap (λ (r : List ℕ). reads [] r) h
many_read zero (t ∷ tags) text h room = absurd (omega (arith, ap length h.2))
many_read (suc n) [] text h room = rw h refl
many_read (suc n) (t ∷ tags) text h room =
    let room : length h.1 ≤ n = omega (arith, ap length h.2, (tag_no_longer h.0).holds t h.1 h.3) in
    rw (h.2, h.3, many_read n tags h.1 h.4 room) refl

-- The set of these tags, and `None` if there are none.
abbrev set_of : List (Pair Text Text) → Option (List (Pair Text Text))
set_of [] = None
set_of (t ∷ tags) = Some (t ∷ tags)

-- The tags of the set are these tags.
set_tags : (tags : List (Pair Text Text)) → some_tags (set_of tags) ≡ tags
set_tags tags = grind (arith)

-- A text of these tags, each after a comma, is read as the set of these tags.
set_read : (tags : List (Pair Text Text)) (text : List ℕ) → SeparatedAfterComma tag tags text []
    → tag_set text ≡ Ok (record { value = set_of tags; rest = [] })
set_read tags text h = grind (arith, many_read)

-- a series that was read reads back
pub read_series_are_parsed : ReadSeriesAreParsed
read_series_are_parsed dialect line l e =
    let parts = answer_parts dialect line l e in
    let tags = some_tags l.tags in
    let m = name_cut a_measurement line l.measurement parts.measurement_rest parts.measurement in
    let set = separated_cut tags parts.measurement_rest parts.tags_rest
    (set_separated parts.measurement_rest parts.tags_rest l.tags parts.tags) in
    let whole : line ≡ (m.front ++ set.front) ++ parts.tags_rest =
    m.is ∙ ap (λ (r : List ℕ). m.front ++ r) set.is ∙ sym (append_assoc m.front set.front parts.tags_rest) in
    let series : l.series ≡ m.front ++ set.front = parts.series ∙ front_is line (m.front ++ set.front) parts.tags_rest whole in
    let parsed : IsParsedSeries (m.front ++ set.front) l.measurement tags = record {
      after = set.front;
      set = set_of tags;
      measurement_is = m.again set.front parts.tags_rest set.is;
      set_is = set_read tags set.front set.separated;
      tags_are = set_tags tags;
    } in (
      subst (λ (s : List ℕ). IsParsedSeries s l.measurement tags) (sym series) parsed,
      (parts.tags_rest, whole ∙ ap (λ (s : List ℕ). s ++ parts.tags_rest) (sym series)),
    )
