-- Each line that is read has a spelling.
use Rattle.std.proofs.Common.{◌≡◌, ℕ, ◌<◌, List, [], ◌∷◌, suc, length, drop, refl, ap, Ok}
use Rattle.lp_format.specs.format.{Line, Pair, Reading, Strict, Text, Value, a_field_key, a_measurement, a_tag_key, a_tag_value, answer}
use Rattle.lp_format.specs.format.{field, name, reads, some_tags, spaces, spelled, tag, value}
use Rattle.lp_format.specs.laws.Meanings.{SeparatedAfterComma, SeparatedBy}
use Rattle.lp_format.proofs.lemmas.meanings.{JoinedMeaning.the_most_is_read, ShorterRests.field_no_longer}
use Rattle.lp_values.proofs.lemmas.fields.ReadingLemmas.{pair_parts}
use Rattle.lp_events.proofs.lemmas.fields.ManyLemmas.{fields_joined, set_separated}
use Rattle.lp_lines.proofs.lemmas.names.ParsedNames.{answer_parts}
use Rattle.lp_portable.specs.format.Spellings.{AreAfterCommas, AreJoined, IsSpelled, Spelling, key_text, tag_text}

-- where a tag is read its names are spelled
tag_spelled : (text : List ℕ) (t : Pair Text Text) (rest : List ℕ) → tag text ≡ reads t rest
    → (names : Pair (List ℕ) (List ℕ)) × (tag_text text ≡ reads names rest)
unfolding tag
tag_spelled text t rest e =
    let p = pair_parts a_tag_key (name a_tag_value) text t rest e in
    (record { key = spelled a_tag_key text; value = spelled a_tag_value p.mid }, rw (p.key, p.value) refl)

-- where a field is read its key is spelled
key_spelled : (text : List ℕ) (f : Pair Text (Value Text)) (rest : List ℕ) → field text ≡ reads f rest
    → (key : List ℕ) × (key_text text ≡ reads key rest)
unfolding field
key_spelled text f rest e = let p = pair_parts a_field_key value text f rest e in (spelled a_field_key text, rw (p.key, p.value) refl)

module _ {A B : Type 0} (one : List ℕ → Reading A) (other : List ℕ → Reading B)
    (each : (text : List ℕ) (x : A) (rest : List ℕ) → one text ≡ reads x rest → (y : B) × (other text ≡ reads y rest)) where
  -- Parts that were read after commas have spellings after commas, and as many of them.
  spelled_after : (xs : List A) (text rest : List ℕ) → SeparatedAfterComma one xs text rest
      → (ys : List B) × AreAfterCommas other ys text rest × (length ys ≡ length xs)
  spelled_after [] text rest h = ([], h, refl)
  spelled_after (x ∷ xs) text rest h =
      let y = each h.0 x h.1 h.3 in
      let others = spelled_after xs h.1 rest h.4 in
      (y.0 ∷ others.0, (h.1, rw h.2 y.1, others.1), ap suc others.2)

  -- Parts that were read with commas between them have spellings with commas between them, and as many of them.
  spelled_by : (xs : List A) (text rest : List ℕ) → SeparatedBy one xs text rest
      → (ys : List B) × AreJoined other ys text rest × (length ys ≡ length xs)
  spelled_by [] text rest h = ([], h, refl)
  spelled_by (x ∷ xs) text rest h =
      let y = each text x h.0 h.1 in
      let others = spelled_after xs h.0 rest h.2 in
      (y.0 ∷ others.0, (h.0, y.1, others.1), ap suc others.2)

-- each line that is read is spelled so
pub line_spelled : (text : List ℕ) (line : Line) → answer Strict text ≡ Ok line
    → (names : Spelling) × IsSpelled text line names × (0 < length line.fields)
line_spelled text line e =
    let p = answer_parts Strict text line e in
    let after = drop (spaces p.tags_rest) p.tags_rest in
    let joined = fields_joined Strict after p.fields_rest line.fields p.fields in
    let whole = (the_most_is_read field (λ t. (field_no_longer t).holds) after line.fields joined.0).0 joined.1 in
    let tags = spelled_after tag tag_text tag_spelled (some_tags line.tags) p.measurement_rest p.tags_rest
    (set_separated p.measurement_rest p.tags_rest line.tags p.tags) in
    let keys = spelled_by field key_text key_spelled line.fields after joined.0 whole.longest.separated in (
      record { measurement = spelled a_measurement text; tags = tags.0; keys = keys.0 },
      record {
        after_name = p.measurement_rest;
        after_tags = p.tags_rest;
        rest = joined.0;
        measurement = rw p.measurement refl;
        tags = tags.1;
        keys = keys.1;
        all_tags = tags.2;
        all_keys = keys.2;
      },
      whole.some,
    )
