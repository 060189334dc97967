-- If a property holds of each part of a text that has it, it holds of the names of the line of the text.
use Rattle.std.proofs.Common.{◌≡◌, ℕ, List, [], ◌∷◌, ◌++◌, take, drop, sym, subst, take-append-drop}
use Rattle.std.specs.{List.AllByRecursion}
use Rattle.lp_format.specs.format.{NameKind, Line, Pair, Reading, byte, comma, equals, name, reads}
use Rattle.lp_format.specs.format.{a_field_key, a_measurement, a_tag_key, a_tag_value, spaces, spelled, spelled_len, value}
use Rattle.lp_values.proofs.lemmas.fields.ReadingLemmas.{EndsIn, bind_reads, byte_ends, name_parts, reads_parts}
use Rattle.lp_portable.specs.format.Spellings.{AreAfterCommas, AreJoined, IsSpelled, Spelling, key_text, name_text, tag_text}
use Rattle.lp_portable.proofs.FieldEnds.{value_left}

module _ (P : List ℕ → Type 0) (parts : (xs ys : List ℕ) → P (xs ++ ys) → P xs × P ys) where
  -- An end of a text has a property that each part of such a text has.
  at_end : (text rest : List ℕ) → EndsIn text rest → P text → P rest
  at_end text rest e h = (parts e.front rest (subst P e.is h)).1

  -- A name and the text after it have the property, if the text does.
  name_has : (kind : NameKind) (text s rest : List ℕ) → name_text kind text ≡ reads s rest → P text → P s × P rest
  name_has kind text s rest e h =
      let p = bind_reads (name kind text) (λ n. reads (spelled kind text) n.rest) s rest e in
      let same = reads_parts (spelled kind text) s p.mid rest p.next in
      let after = (name_parts kind text p.first p.mid p.was).1 in
      let whole = parts (take (spelled_len kind text) text) (drop (spelled_len kind text) text)
      (subst P (sym (take-append-drop (spelled_len kind text) text)) h) in
      (subst P same.0 whole.0, subst P same.1 (subst P (sym after) whole.1))

  -- The names of a tag and the text after it have the property, if the text does.
  tag_has : (text : List ℕ) (t : Pair (List ℕ) (List ℕ)) (rest : List ℕ) → tag_text text ≡ reads t rest → P text → (P t.key × P t.value) × P rest
  tag_has text t rest e h =
      let one = bind_reads (name_text a_tag_key text) _ t rest e in
      let key = name_has a_tag_key text one.first one.mid one.was h in
      let two = bind_reads (byte equals one.mid) _ t rest one.next in
      let after = at_end one.mid two.mid (byte_ends equals one.mid two.first two.mid two.was) key.1 in
      let three = bind_reads (name_text a_tag_value two.mid) _ t rest two.next in
      let val = name_has a_tag_value two.mid three.first three.mid three.was after in
      let same = reads_parts _ t three.mid rest three.next in
      (subst (λ (u : Pair (List ℕ) (List ℕ)). P u.key × P u.value) same.0 (key.0, val.0), subst P same.1 val.1)

  -- The key of a field and the text after the field have the property, if the text does.
  key_has : (text key rest : List ℕ) → key_text text ≡ reads key rest → P text → P key × P rest
  key_has text key rest e h =
      let one = bind_reads (name_text a_field_key text) _ key rest e in
      let first = name_has a_field_key text one.first one.mid one.was h in
      let two = bind_reads (byte equals one.mid) _ key rest one.next in
      let after = at_end one.mid two.mid (byte_ends equals one.mid two.first two.mid two.was) first.1 in
      let three = bind_reads (value two.mid) _ key rest two.next in
      let end = at_end two.mid three.mid ((value_left two.mid).holds three.first three.mid three.was) after in
      let same = reads_parts one.first key three.mid rest three.next in
      (subst P same.0 first.0, subst P same.1 end)

  module _ {A : Type 0} (Q : A → Type 0) (one : List ℕ → Reading A)
      (has : (text : List ℕ) (x : A) (rest : List ℕ) → one text ≡ reads x rest → P text → Q x × P rest) where
    -- Parts after commas have the second property, and the rest has the first, if the text does.
    after_have : (xs : List A) (text rest : List ℕ) → AreAfterCommas one xs text rest → P text → AllByRecursion Q xs × P rest
    after_have [] text rest are h = (tt, subst P are h)
    after_have (x ∷ xs) text rest are h =
        let p = bind_reads (byte comma text) (λ after. one after.rest) x are.0 are.1 in
        let place = at_end text p.mid (byte_ends comma text p.first p.mid p.was) h in
        let here = has p.mid x are.0 p.next place in
        let others = after_have xs are.0 rest are.2 here.1 in
        ((here.0, others.0), others.1)

    -- Parts with commas between them have the second property if the text has the first.
    joined_have : (xs : List A) (text rest : List ℕ) → AreJoined one xs text rest → P text → AllByRecursion Q xs
    joined_have [] text rest are h = tt
    joined_have (x ∷ xs) text rest are h =
        let here = has text x are.0 are.1 h in (here.0, (after_have xs are.0 rest are.2 here.1).0)

  -- The names of a line have the property, if the text does.
  pub names_have : (text : List ℕ) (line : Line) (names : Spelling) → IsSpelled text line names → P text
      → P names.measurement × AllByRecursion (λ t. P t.key × P t.value) names.tags × AllByRecursion P names.keys
  names_have text line names are h =
      let m = name_has a_measurement text names.measurement are.after_name are.measurement h in
      let tags = after_have (λ t. P t.key × P t.value) tag_text tag_has names.tags are.after_name are.after_tags are.tags m.1 in
      let left = (parts (take (spaces are.after_tags) are.after_tags) (drop (spaces are.after_tags) are.after_tags)
      (subst P (sym (take-append-drop (spaces are.after_tags) are.after_tags)) tags.1)).1 in
      (m.0, tags.0, joined_have P key_text key_has names.keys (drop (spaces are.after_tags) are.after_tags) are.rest are.keys left)
