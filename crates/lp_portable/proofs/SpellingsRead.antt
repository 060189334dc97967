-- Each line that is read has a spelling, and its names are the logical texts of this spelling.
use Rattle.std.proofs.Common.{◌≡◌, ℕ, List, [], ◌∷◌, length, map, drop, refl, sym, ap, ◌∙◌, arith}
use Rattle.lp_format.specs.format.{Pair, Reading, Strict, Text, Value, a_field_key, a_measurement, a_tag_key, a_tag_value, equals}
use Rattle.lp_format.specs.format.{NameKind, field, logical, logical_tag, name, reads, some_tags, spaces, spelled, tag, value}
use Rattle.lp_format.specs.laws.Meanings.{SeparatedAfterComma, SeparatedBy}
use Rattle.lp_format.proofs.lemmas.meanings.{JoinedMeaning.the_most_is_read, ShorterRests.field_no_longer}
use Rattle.lp_values.proofs.lemmas.fields.ReadingLemmas.{name_parts, pair_parts, reads_parts}
use Rattle.lp_events.proofs.lemmas.fields.ManyLemmas.{fields_joined, set_separated}
use Rattle.lp_lines.proofs.lemmas.names.ParsedNames.{answer_parts}
use Rattle.lp_portable.specs.format.Spellings.{AreAfterCommas, AreJoined, key_text, name_text, tag_text}
use Rattle.lp_portable.specs.laws.PortableLaws.{LinesAreSpelled, SpellingsAreRead, logical_names}
use Rattle.lp_portable.proofs.LinesSpelled.{line_spelled}

-- Two readings of one text leave the same rest, and their results have the same view.
abbrev AreOne : {A B C : Type 0} → (A → C) → (B → C) → (List ℕ → Reading A) → (List ℕ → Reading B) → Type 0
AreOne {A} {B} f g one other =
    (text : List ℕ) (x : A) (y : B) (rest end : List ℕ) → one text ≡ reads x rest → other text ≡ reads y end → (rest ≡ end) × (f x ≡ g y)

-- a name and its spelling
name_is : (kind : NameKind) → AreOne (logical kind) (λ (t : Text). t.bytes) (name_text kind) (name kind)
name_is kind text x t rest end e d =
    let parts = name_parts kind text t end d in
    let here = reads_parts (spelled kind text) x end rest (rw d at e) in
    (sym here.1, ap (logical kind) (sym here.0) ∙ sym (ap (λ (u : Text). u.bytes) parts.0))

-- two names by their parts
same_pair : (k l v w : List ℕ) → k ≡ l → v ≡ w → (let p : Pair (List ℕ) (List ℕ) = record { key = k; value = v } in p) ≡ record { key = l; value = w }
same_pair k l v w key val = rw (key, val) refl

-- a tag and the spelling of its names
tag_is : AreOne logical_names logical_tag tag_text tag
unfolding tag
tag_is text x t rest end e d =
    let p = pair_parts a_tag_key (name a_tag_value) text t end d in
    let key = (name_parts a_tag_key text t.key (equals ∷ p.mid) p.key).0 in
    let val = (name_parts a_tag_value p.mid t.value end p.value).0 in
    let here = reads_parts _ x end rest (rw (p.key, p.value) at e) in
    (sym here.1, ap logical_names (sym here.0) ∙ same_pair _ _ _ _ (sym (ap (λ (u : Text). u.bytes) key)) (sym (ap (λ (u : Text). u.bytes) val)))

-- a field and the spelling of its key
key_is : AreOne (logical a_field_key) (λ (f : Pair Text (Value Text)). f.key.bytes) key_text field
unfolding field
key_is text x f rest end e d =
    let p = pair_parts a_field_key value text f end d in
    let key = (name_parts a_field_key text f.key (equals ∷ p.mid) p.key).0 in
    let here = reads_parts _ x end rest (rw (p.key, p.value) at e) in
    (sym here.1, ap (logical a_field_key) (sym here.0) ∙ sym (ap (λ (u : Text). u.bytes) key))

module _ {A B C : Type 0} (f : A → C) (g : B → C) (one : List ℕ → Reading A) (other : List ℕ → Reading B) (are : AreOne f g one other) where
  -- As many spelled parts as parts that were read, each after a comma, leave the same rest and have the same logical texts.
  one_after : (xs : List A) (ys : List B) (text rest end : List ℕ) → AreAfterCommas one xs text rest → SeparatedAfterComma other ys text end
      → length xs ≡ length ys → (rest ≡ end) × (map f xs ≡ map g ys)
  one_after [] [] text rest end h k len = (sym h ∙ k, refl)
  one_after [] (y ∷ ys) text rest end h k len = absurd (omega (arith, len))
  one_after (x ∷ xs) [] text rest end h k len = absurd (omega (arith, len))
  one_after (x ∷ xs) (y ∷ ys) text rest end h k len =
      let here = are k.0 x y h.0 k.1 (rw k.2 at h.1) k.3 in
      let others = one_after xs ys h.0 rest end h.2 (rw here.0 k.4) (omega (arith, len)) in
      (others.0, rw (here.1, others.1) refl)

  -- As many spelled parts as parts that were read, with commas between them, have the same logical texts.
  one_by : (xs : List A) (ys : List B) (text rest end : List ℕ) → AreJoined one xs text rest → SeparatedBy other ys text end
      → length xs ≡ length ys → map f xs ≡ map g ys
  one_by [] [] text rest end h k len = refl
  one_by [] (y ∷ ys) text rest end h k len = absurd (omega (arith, len))
  one_by (x ∷ xs) [] text rest end h k len = absurd (omega (arith, len))
  one_by (x ∷ xs) (y ∷ ys) text rest end h k len =
      let here = are text x y h.0 k.0 h.1 k.1 in
      let others = one_after xs ys h.0 rest end h.2 (rw here.0 k.2) (omega (arith, len)) in
      rw (here.1, others.1) refl

-- each line has a spelling
pub lines_are_spelled : LinesAreSpelled
lines_are_spelled text line e = let spelled = line_spelled text line e in (spelled.0, spelled.1)

-- The names that were read are the logical texts of the spelling.
pub spellings_are_read : SpellingsAreRead
spellings_are_read text line names e h =
    let p = answer_parts Strict text line e in
    let m = name_is a_measurement text names.measurement line.measurement h.after_name p.measurement_rest h.measurement p.measurement in
    let tags = one_after logical_names logical_tag tag_text tag tag_is names.tags (some_tags line.tags) h.after_name h.after_tags p.tags_rest h.tags
    (rw m.0 (set_separated p.measurement_rest p.tags_rest line.tags p.tags)) h.all_tags in
    let after = drop (spaces p.tags_rest) p.tags_rest in
    let joined = fields_joined Strict after p.fields_rest line.fields p.fields in
    let whole = (the_most_is_read field (λ t. (field_no_longer t).holds) after line.fields joined.0).0 joined.1 in
    record {
      measurement = m.1;
      tags = tags.1;
      keys = one_by (logical a_field_key) (λ f. f.key.bytes) key_text field key_is names.keys line.fields (drop (spaces h.after_tags) h.after_tags)
          h.rest joined.0 h.keys (rw tags.0 whole.longest.separated) h.all_keys;
    }
