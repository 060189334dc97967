-- The fields of a portable line are spelled as the scans read them, and its time is read.
use Rattle.std.proofs.Common.{◌≡◌, ℕ, ◌<◌, List, [], ◌∷◌, ◌++◌, length, map, Bool, true, false, not, ◌==◌, ◌||◌, refl, sym, ap, ◌∙◌, arith, inl, inr}
use Rattle.std.proofs.Common.{append_assoc}
use Rattle.std.proofs.lemmas.{Bool.cases_Bool, Bool.false≢true}
use Rattle.std.specs.List.{AllByRecursion, list_any}
use Rattle.lp_format.specs.format.{Pair, Text, Value, a_field_key, backslash, byte, comma, equals, field, is_one_of, name, quote, reads, space, value}
use Rattle.lp_format.specs.laws.Meanings.{SeparatedAfterComma, SeparatedBy}
use Rattle.lp_values.proofs.lemmas.fields.ReadingLemmas.{bind_reads, byte_parts, pair_parts, reads_parts}
use Rattle.lp_portable.specs.format.Spellings.{AreAfterCommas, AreJoined, holds, key_text, name_text}
use Rattle.lp_portable.specs.format.Portable.{has_bare_comma, has_marked_escape, is_finite, is_unsigned}
use Rattle.lp_portable.proofs.HeldBytes.{neither}
use Rattle.lp_influx.specs.format.InfluxFields.{is_literal_end}
use Rattle.lp_influx.proofs.NameFronts.{NameFront, bare_by, front_is, name_rest}
use Rattle.lp_influx.proofs.Strings.{ValueFront, ValueFront.is_literal, ValueFront.is_string, value_front}
use Rattle.lp_influx.proofs.FieldTexts.{FieldText, IsAfterFields, IsAfterFields.a_space, IsAfterFields.nothing, IsFieldText, IsValueText.in_quotes, IsValueText.plain_value, after_commas}

-- a name that holds none of some bytes escaped holds none of fewer so
pub fewer_escaped : (xs ys name : List ℕ) → ((b : ℕ) → is_one_of xs b ≡ false → is_one_of ys b ≡ false) → holds xs [] name ≡ false → holds ys [] name ≡ false
unfolding holds
fewer_escaped xs ys [] all h = refl
fewer_escaped xs ys (b ∷ []) all h = refl
fewer_escaped xs ys (b ∷ c ∷ name) all h = elim (cases_Bool (b == backslash)) [
  | inl slash ↦
      let both = neither (is_one_of xs c) (holds xs [] name) (rw slash at h) in
      rw (slash, all c both.0) (fewer_escaped xs ys name all both.1)
  | inr plain ↦ rw plain (fewer_escaped xs ys (c ∷ name) all (rw plain at h))
]

-- where a field and its key are read: the key, and its value
record KeyParts (text key after : List ℕ) (f : Pair Text (Value Text)) (rest : List ℕ) : Type 0 where
  mid : List ℕ
  key_is : NameFront a_field_key text key (equals ∷ mid)
  value_is : value mid ≡ reads f.value rest
  same : after ≡ rest

-- A field and its spelled key, read from one text, have these parts.
key_parts : (text key after : List ℕ) (f : Pair Text (Value Text)) (rest : List ℕ) → key_text text ≡ reads key after → field text ≡ reads f rest
    → KeyParts text key after f rest
unfolding field
key_parts text key after f rest e d =
    let one = bind_reads (name_text a_field_key text) _ key after e in
    let two = bind_reads (byte equals one.mid) _ key after one.next in
    let three = bind_reads (value two.mid) (λ x. reads one.first x.rest) key after two.next in
    let sign = (byte_parts equals one.mid two.first two.mid two.was).1 in
    let same = reads_parts one.first key three.mid after three.next in
    let p = pair_parts a_field_key value text f rest d in
    let spelt = name_rest a_field_key text one.first one.mid f.key (equals ∷ p.mid) one.was p.key in
    let mid : equals ∷ two.mid ≡ equals ∷ p.mid = sym sign ∙ spelt in
    let here : two.mid ≡ p.mid = cc in
    let read = reads_parts three.first f.value three.mid rest (sym three.was ∙ ap value here ∙ p.value) in
    record {
      mid = p.mid;
      key_is = front_is a_field_key text one.first key one.mid (equals ∷ p.mid) one.was same.0 spelt;
      value_is = p.value;
      same = sym same.1 ∙ read.1;
    }

-- a field as it is spelled
record Piece (text key : List ℕ) (v : Value Text) (rest : List ℕ) : Type 0 where
  spelt : List ℕ
  whole : text ≡ key ++ equals ∷ (spelt ++ rest)
  is : IsFieldText (record { key = key; text = spelt; value = v })

-- A key and a value are the text of a field.
piece_of : (text key mid : List ℕ) (v : Value Text) (rest : List ℕ) → NameFront a_field_key text key (equals ∷ mid) → ValueFront mid v rest
    → has_marked_escape key ≡ false → has_bare_comma key ≡ false → Piece text key v rest
piece_of text key mid v rest k x escapes commas =
    let pairs = fewer_escaped (backslash ∷ quote ∷ []) (backslash ∷ []) key (λ b h. rw (neither (backslash == b) (quote == b || false) h).0 refl) escapes in
    let bare = bare_by (comma ∷ []) (equals ∷ space ∷ []) (equals ∷ comma ∷ space ∷ []) key (λ b h g. grind (arith, neither, h, g)) commas
    (k.bare_bytes (equals ∷ space ∷ []) refl (λ b h. grind (arith, neither, h))) in
    by_value x pairs bare
  where
    -- A key and a value are the text of a field, by the form of the value.
    by_value : ValueFront mid v rest → holds (backslash ∷ []) [] key ≡ false → holds [] (equals ∷ comma ∷ space ∷ []) key ≡ false → Piece text key v rest
    by_value (is_literal front whole l) pairs bare = record {
      spelt = front;
      whole = k.whole ∙ rw whole refl;
      is = record { some = k.some; pairs = pairs; bare_bytes = bare; last = k.last; is_value = plain_value l };
    }
    by_value (is_string s) pairs bare = record {
      spelt = quote ∷ (s.body ++ quote ∷ []);
      whole = k.whole ∙ rw (s.whole, append_assoc s.body (quote ∷ []) rest) refl;
      is = record { some = k.some; pairs = pairs; bare_bytes = bare; last = k.last; is_value = in_quotes s.body s.is refl s.reads_it };
    }

-- The conditions on field keys and fields.
pub record ArePlain (keys : List (List ℕ)) (fields : List (Pair Text (Value Text))) : Type 0 where
  pub escapes : list_any has_marked_escape keys ≡ false
  pub commas : list_any has_bare_comma keys ≡ false
  pub signed : list_any (λ f. is_unsigned f.value) fields ≡ false
  pub finite : list_any (λ f. not (is_finite f.value)) fields ≡ false

-- the fields of a text as they are spelled, each after a comma
pub record Pieces (keys : List (List ℕ)) (fields : List (Pair Text (Value Text))) (text rest : List ℕ) : Type 0 where
  pub are : List FieldText
  pub whole : text ≡ after_commas are rest
  pub all : AllByRecursion IsFieldText are
  pub keys_are : map (λ f. f.key) are ≡ keys
  pub values_are : map (λ f. f.value) are ≡ map (λ f. f.value) fields

-- a literal may end where more fields or the end of all are
ends_fields : (fields : List (Pair Text (Value Text))) (text rest : List ℕ) → SeparatedAfterComma field fields text rest → IsAfterFields rest
    → is_literal_end text ≡ true
ends_fields [] text _ h nothing = rw h refl
ends_fields [] text _ h (a_space rest) = rw h refl
ends_fields (f ∷ fields) text rest h is = rw h.2 refl

-- The first of the fields is the text of a field.
first_piece : (text key after : List ℕ) (keys : List (List ℕ)) (f : Pair Text (Value Text)) (fields : List (Pair Text (Value Text))) (rest : List ℕ)
    → key_text text ≡ reads key after → field text ≡ reads f rest → ArePlain (key ∷ keys) (f ∷ fields)
    → Piece text key f.value rest × (after ≡ rest) × ArePlain keys fields
first_piece text key after keys f fields rest e d plain =
    let escapes = neither (has_marked_escape key) (list_any has_marked_escape keys) plain.escapes in
    let commas = neither (has_bare_comma key) (list_any has_bare_comma keys) plain.commas in
    let signed = neither (is_unsigned f.value) (list_any (λ g. is_unsigned g.value) fields) plain.signed in
    let finite = neither (not (is_finite f.value)) (list_any (λ g. not (is_finite g.value)) fields) plain.finite in
    let p = key_parts text key after f rest e d in
    let x = value_front p.mid f.value rest p.value_is signed.0 (is_true (is_finite f.value) finite.0) in (
      piece_of text key p.mid f.value rest p.key_is x escapes.0 commas.0,
      p.same,
      record { escapes = escapes.1; commas = commas.1; signed = signed.1; finite = finite.1 },
    )
  where
    -- A test whose negation is `false` is `true`.
    is_true : (b : Bool) → not b ≡ false → b ≡ true
    is_true true h = refl
    is_true false h = absurd (false≢true (sym h))

-- fields after commas
pieces_after : (keys : List (List ℕ)) (fields : List (Pair Text (Value Text))) (text after rest : List ℕ) → AreAfterCommas key_text keys text after
    → SeparatedAfterComma field fields text rest → length keys ≡ length fields → ArePlain keys fields → IsAfterFields rest → Pieces keys fields text rest
pieces_after [] [] text after rest a b len plain is = record { are = []; whole = b; all = tt; keys_are = refl; values_are = refl }
pieces_after [] (f ∷ fields) text after rest a b len plain is = absurd (omega (arith, len))
pieces_after (key ∷ keys) [] text after rest a b len plain is = absurd (omega (arith, len))
pieces_after (key ∷ keys) (f ∷ fields) text after rest a b len plain is =
    let read : key_text b.0 ≡ reads key a.0 = rw b.2 at a.1 in
    let one = first_piece b.0 key a.0 keys f fields b.1 read b.3 plain in
    let more = pieces_after keys fields b.1 after rest (rw one.1 at a.2) b.4 (omega (arith, len)) one.2 is in
    record {
      are = record { key = key; text = one.0.spelt; value = f.value } ∷ more.are;
      whole = b.2 ∙ ap (λ (t : List ℕ). comma ∷ t) (one.0.whole ∙ ap (λ (t : List ℕ). key ++ equals ∷ (one.0.spelt ++ t)) more.whole);
      all = (one.0.is, more.all);
      keys_are = rw more.keys_are refl;
      values_are = rw more.values_are refl;
    }

-- the fields of a text
pub record Spelt (keys : List (List ℕ)) (fields : List (Pair Text (Value Text))) (text rest : List ℕ) : Type 0 where
  pub first : FieldText
  pub others : List FieldText
  pub whole : text ≡ first.key ++ equals ∷ (first.text ++ after_commas others rest)
  pub all : AllByRecursion IsFieldText (first ∷ others)
  pub keys_are : map (λ f. f.key) (first ∷ others) ≡ keys
  pub values_are : map (λ f. f.value) (first ∷ others) ≡ map (λ f. f.value) fields

-- each text of plain fields is spelled so
pub fields_spelt : (keys : List (List ℕ)) (fields : List (Pair Text (Value Text))) (text after rest : List ℕ) → AreJoined key_text keys text after
    → SeparatedBy field fields text rest → 0 < length fields → length keys ≡ length fields → ArePlain keys fields → IsAfterFields rest
    → Spelt keys fields text rest
fields_spelt keys [] text after rest a b some len plain is = absurd (omega arith)
fields_spelt [] (f ∷ fields) text after rest a b some len plain is = absurd (omega (arith, len))
fields_spelt (key ∷ keys) (f ∷ fields) text after rest a b some len plain is =
    let one = first_piece text key a.0 keys f fields b.0 a.1 b.1 plain in
    let more = pieces_after keys fields b.0 after rest (rw one.1 at a.2) b.2 (omega (arith, len)) one.2 is in
    record {
      first = record { key = key; text = one.0.spelt; value = f.value };
      others = more.are;
      whole = one.0.whole ∙ ap (λ (t : List ℕ). key ++ equals ∷ (one.0.spelt ++ t)) more.whole;
      all = (one.0.is, more.all);
      keys_are = rw more.keys_are refl;
      values_are = rw more.values_are refl;
    }
