-- InfluxDB's reader finds the same parts of a portable line as the strict reader.
use Rattle.std.proofs.Common.{◌≡◌, ℕ, ℤ, ◌-◌, ◌<◌, pos, negsuc, List, [], ◌∷◌, ◌++◌, length, drop, map, true, false, ◌==◌, refl, sym, ap, ◌∙◌, arith, inl, inr, Option, None, Ok}
use Rattle.std.proofs.Common.{eqb-true, length-append}
use Rattle.std.proofs.lemmas.{Bool.cases_Bool, Bool.false≢true, Grind.common_steps}
use Rattle.std.specs.List.{list_any}
use Rattle.lp_format.specs.format.{Line, Pair, Strict, Text, Value, a_field_key, a_measurement, a_tag_key, a_tag_value, answer, backslash, byte, comma, equals, field, is_one_of}
use Rattle.lp_format.specs.format.{logical, name, nul, reads, some_tags, space, spaces, tab, tag, timestamp, value, without_escapes}
use Rattle.lp_format.specs.laws.Meanings.{SeparatedAfterComma, SeparatedBy}
use Rattle.lp_format.specs.laws.MeaningsOfAnswers.{BeginsWith, IsAnswer, IsAnswer.all_read}
use Rattle.lp_values.proofs.lemmas.fields.ReadingLemmas.{bind_reads, pair_parts, reads_parts}
use Rattle.lp_events.proofs.lemmas.fields.ManyLemmas.{set_separated}
use Rattle.lp_lines.proofs.lemmas.meanings.AnswerMeaning.{answer_is_by_rows, series_parts}
use Rattle.lp_portable.specs.format.Spellings.{AreAfterCommas, AreJoined, IsSpelled, Spelling, holds, key_text, name_text, tag_text}
use Rattle.lp_portable.specs.format.Portable.{begins_with, begins_with_nul, has_comma, has_escape, has_sign, is_outside}
use Rattle.lp_portable.proofs.{HeldBytes.neither, SpellingsRead.spellings_are_read}
use Rattle.lp_influx.specs.format.InfluxNames.{influx_tags, measurement_at}
use Rattle.lp_influx.specs.format.InfluxFields.{influx_fields}
use Rattle.lp_influx.specs.format.InfluxLines.{Parts, gap_before, influx_time, parts_at, without_gap}
use Rattle.lp_influx.proofs.NameFronts.{NameFront, front_is, name_front, name_rest, some_reads, until_name}
use Rattle.lp_influx.proofs.Tags.{next_byte, tags_alike}
use Rattle.lp_influx.proofs.FieldTexts.{FieldText, IsAfterFields, IsAfterFields.a_space, IsAfterFields.nothing, influx_fields_read, read_of}
use Rattle.lp_influx.proofs.SpelledFields.{ArePlain, fields_spelt}
use Rattle.lp_influx.proofs.Times.{same_read, spaces_are_gap, time_alike}

-- where a tag and its spelling are read, they leave the same
tag_rest : (text : List ℕ) (x : Pair (List ℕ) (List ℕ)) (t : Pair Text Text) (rest end : List ℕ) → tag_text text ≡ reads x rest → tag text ≡ reads t end
    → rest ≡ end
unfolding tag
tag_rest text x t rest end e d =
    let p = pair_parts a_tag_key (name a_tag_value) text t end d in
    by p.mid p.key p.value
  where
    -- Both readings of a tag leave the same rest, by the rests that its names leave.
    by : (mid : List ℕ) → name a_tag_key text ≡ reads t.key (equals ∷ mid) → name a_tag_value mid ≡ reads t.value end → rest ≡ end
    by mid key val = sym (reads_parts _ x end rest (rw (key, val) at e)).1

-- Spelled tags after commas leave the same rest as the tags that were read.
tags_rest : (xs : List (Pair (List ℕ) (List ℕ))) (ts : List (Pair Text Text)) (text rest end : List ℕ) → AreAfterCommas tag_text xs text rest
    → SeparatedAfterComma tag ts text end → length xs ≡ length ts → rest ≡ end
tags_rest [] [] text rest end a b len = sym a ∙ b
tags_rest [] (t ∷ ts) text rest end a b len = absurd (omega (arith, len))
tags_rest (x ∷ xs) [] text rest end a b len = absurd (omega (arith, len))
tags_rest (x ∷ xs) (t ∷ ts) text rest end a b len =
    let read : tag_text b.0 ≡ reads x a.0 = rw b.2 at a.1 in
    let same = tag_rest b.0 x t a.0 b.1 read b.3 in
    tags_rest xs ts b.1 rest end (rw same at a.2) b.4 (omega (arith, len))

-- The text after the fields of a line that is read whole is nothing, or a space and more.
after_fields_is : (text : List ℕ) (t : Option ℤ) → timestamp text ≡ Ok (record { value = t; rest = [] }) → IsAfterFields text
after_fields_is [] t e = nothing
after_fields_is (b ∷ text) t e = elim (cases_Bool (b == space)) [
  | inl here ↦ rw (eqb-true b space here) (a_space text)
  | inr other ↦
      let same = (same_read (record { value = None; rest = b ∷ text }) (record { value = t; rest = [] }) (rw other at e)).1 in
      absurd (omega (arith, ap length same))
]

-- The first byte of a name that holds none of some bytes bare is none of these bytes.
pub first_of : (marks : List ℕ) (b : ℕ) (name : List ℕ) → is_one_of marks backslash ≡ false → holds [] marks (b ∷ name) ≡ false → is_one_of marks b ≡ false
unfolding holds
first_of marks b [] other none = none
first_of marks b (c ∷ name) other none = elim (cases_Bool (b == backslash)) [
  | inl slash ↦ ap (is_one_of marks) (eqb-true b backslash slash) ∙ other
  | inr plain ↦ (neither (is_one_of marks b) (holds [] marks (c ∷ name)) (rw plain at none)).0
]

-- a byte that is neither a blank nor 0 is kept
kept_byte : (b : ℕ) → is_one_of (space ∷ tab ∷ []) b ≡ false → (b == nul) ≡ false → is_one_of (space ∷ tab ∷ nul ∷ []) b ≡ false
kept_byte b none other = grind (arith, common_steps, cases_Bool)

-- a key that begins with no gap
key_no_gap : (key rest : List ℕ) → 0 < length key → holds [] (space ∷ tab ∷ []) key ≡ false → begins_with nul key ≡ false
    → without_gap (key ++ rest) ≡ key ++ rest
key_no_gap [] rest some none other = absurd (omega arith)
key_no_gap (b ∷ key) rest some none other = rw (kept_byte b (first_of (space ∷ tab ∷ []) b key refl none) other) refl

-- the first byte of a key, by its text
no_nul : (key : List ℕ) → begins_with nul (logical a_field_key key) ≡ false → begins_with nul key ≡ false
unfolding without_escapes
no_nul [] h = refl
no_nul (b ∷ []) h = h
no_nul (b ∷ c ∷ key) h = elim (cases_Bool (b == nul)) [
  | inl here ↦ absurd (false≢true (sym (rw (eqb-true b nul here) at h)))
  | inr other ↦ other
]

-- a byte that a text begins with is its first
begins_is : (b : ℕ) (text : List ℕ) → BeginsWith b text → (rest : List ℕ) × (text ≡ b ∷ rest)
begins_is b [] h = absurd h
begins_is b (c ∷ text) h = (text, rw h refl)

-- the first key
first_key : (keys : List (List ℕ)) (text after : List ℕ) → AreJoined key_text keys text after → 0 < length keys → (key : List ℕ) × (others : List (List ℕ))
    × (mid : List ℕ) × (keys ≡ key ∷ others) × NameFront a_field_key text key mid
first_key [] text after h some = absurd (omega arith)
first_key (key ∷ keys) text after h some =
    let one = bind_reads (name_text a_field_key text) _ key h.0 h.1 in
    let two = bind_reads (byte equals one.mid) _ key h.0 one.next in
    let three = bind_reads (value two.mid) (λ x. reads one.first x.rest) key h.0 two.next in
    let same = (reads_parts one.first key three.mid h.0 three.next).0 in
    (key, keys, one.mid, refl, front_is a_field_key text one.first key one.mid one.mid one.was same refl)

-- The conditions on a line.
pub record IsPlainLine (text : List ℕ) (line : Line) (names : Spelling) : Type 0 where
  pub measurement : holds (backslash ∷ []) [] names.measurement ≡ false
  pub escapes : list_any has_escape names.tags ≡ false
  pub commas : list_any has_comma names.tags ≡ false
  pub signs : list_any has_sign names.tags ≡ false
  pub fields : ArePlain names.keys line.fields
  pub first : begins_with_nul line.fields ≡ false
  pub time : is_outside (negsuc 9223372036854775805) (pos 9223372036854775806) line.timestamp ≡ false

-- the parts that are found in a line, by the fields that were found
abbrev pub parts_of : Line → Spelling → List FieldText → Parts
parts_of line names fields = record {
  measurement = names.measurement;
  tags = names.tags;
  series_len = length line.series;
  fields = map read_of fields;
  timestamp = line.timestamp;
}

-- the parts of a line, with its fields as they are spelled
pub record PartsRead (text : List ℕ) (line : Line) (names : Spelling) : Type 0 where
  pub fields : List FieldText
  pub keys_are : map (λ f. f.key) fields ≡ names.keys
  pub values_are : map (λ f. f.value) fields ≡ map (λ f. f.value) line.fields
  pub read : parts_at text ≡ reads (parts_of line names fields) []

-- the measurement is read
measurement_reads : (text name after : List ℕ) (b : ℕ) (more : List ℕ) → name_text a_measurement text ≡ reads name after → after ≡ b ∷ more
    → is_one_of (comma ∷ space ∷ []) b ≡ true → holds (backslash ∷ []) [] name ≡ false → measurement_at text ≡ reads name after
measurement_reads text name after b more e is end pairs =
    let f = name_front a_measurement text name after e in
    let bare = f.bare_bytes (comma ∷ space ∷ []) refl (λ c h. grind (arith, neither, h)) in
    let whole : text ≡ name ++ b ∷ more = f.whole ∙ ap (λ (t : List ℕ). name ++ t) is in
    rw (whole, until_name (comma ∷ space ∷ []) name more b refl end pairs bare f.last, is) (some_reads name (b ∷ more) f.some)

-- the first key begins with no byte 0
first_no_nul : (key : List ℕ) (keys : List (List ℕ)) (fields : List (Pair Text (Value Text))) → begins_with_nul fields ≡ false
    → map (logical a_field_key) (key ∷ keys) ≡ map (λ f. f.key.bytes) fields → begins_with nul key ≡ false
first_no_nul key keys [] none texts = absurd (omega (arith, ap length texts))
first_no_nul key keys (f ∷ fields) none texts =
    let same : logical a_field_key key ≡ f.key.bytes = cc in
    no_nul key (ap (begins_with nul) same ∙ none)

-- fields begin with no gap
fields_no_gap : (keys : List (List ℕ)) (fields : List (Pair Text (Value Text))) (text after : List ℕ) → AreJoined key_text keys text after → 0 < length keys
    → begins_with_nul fields ≡ false → map (logical a_field_key) keys ≡ map (λ f. f.key.bytes) fields → without_gap text ≡ text
fields_no_gap keys fields text after are some none texts =
    let k = first_key keys text after are some in
    let other = first_no_nul k.0 k.1 fields none (rw k.3 at texts) in
    let bare = k.4.bare_bytes (space ∷ tab ∷ []) refl (λ b h. grind (arith, neither, h)) in
    rw k.4.whole (key_no_gap k.0 k.2 k.4.some bare other)

-- the fields of a line, as they were found
record FieldsRead (fields : List (Pair Text (Value Text))) (keys : List (List ℕ)) (text rest : List ℕ) : Type 0 where
  are : List FieldText
  keys_are : map (λ f. f.key) are ≡ keys
  values_are : map (λ f. f.value) are ≡ map (λ f. f.value) fields
  read : influx_fields (gap_before text (without_gap text)) (without_gap text) ≡ reads (map read_of are) rest

-- The fields of a line are read by InfluxDB's reader, from the gap before them.
fields_alike : (fields : List (Pair Text (Value Text))) (keys : List (List ℕ)) (text after rest : List ℕ)
    → AreJoined key_text keys (drop (spaces text) text) after → SeparatedBy field fields (drop (spaces text) text) rest
    → 0 < length fields → length keys ≡ length fields → ArePlain keys fields → begins_with_nul fields ≡ false
    → map (logical a_field_key) keys ≡ map (λ f. f.key.bytes) fields → IsAfterFields rest → FieldsRead fields keys text rest
fields_alike fields keys text after rest are separated some len plain none texts is =
    let start = drop (spaces text) text in
    let gap = spaces_are_gap text (fields_no_gap keys fields start after are (omega (arith, len)) none texts) in
    let s = fields_spelt keys fields start after rest are separated some len plain is in
    let read = influx_fields_read (gap_before text start) s.first s.others rest s.all is in
    record {
      are = s.first ∷ s.others;
      keys_are = s.keys_are;
      values_are = s.values_are;
      read = rw gap (ap (influx_fields (gap_before text start)) s.whole ∙ read);
    }

-- the parts are found one after another
parts_found : (text after_name series more rest : List ℕ) (m : List ℕ) (tags : List (Pair (List ℕ) (List ℕ))) (fields : List (Pair (List ℕ) (Value Text)))
    (t : Option ℤ) → measurement_at text ≡ reads m after_name → influx_tags after_name ≡ reads tags series → series ≡ space ∷ more
    → influx_fields (gap_before series (without_gap series)) (without_gap series) ≡ reads fields rest → influx_time rest ≡ reads t []
    → parts_at text ≡ reads (record { measurement = m; tags = tags; series_len = length text - length series; fields = fields; timestamp = t }) []
parts_found text after_name series more rest m tags fields t name set is found time =
    let gap : byte space series ≡ reads space more = rw is refl in
    rw (name, set, gap, found, time) refl

-- the parts of a line that is read
pub parts_read : (text : List ℕ) (line : Line) (names : Spelling) → answer Strict text ≡ Ok line → IsSpelled text line names → IsPlainLine text line names
    → PartsRead text line names
parts_read text line names e h plain = by_row ((answer_is_by_rows Strict text (Ok line)).0 e)
  where
    -- The parts of a line are read, by the row of the table of answers.
    by_row : IsAnswer Strict text (Ok line) → PartsRead text line names
    by_row (all_read _ rest r stamp) =
        let s = series_parts r.series_reads in
        let after_name = name_rest a_measurement text names.measurement h.after_name line.measurement s.after h.measurement s.named in
        let begins = begins_is space r.after_series r.gap in
        let tags_are = set_separated s.after r.after_series line.tags s.set in
        let after_tags : h.after_tags ≡ r.after_series =
        tags_rest names.tags (some_tags line.tags) h.after_name h.after_tags r.after_series h.tags (rw (← after_name) at tags_are) h.all_tags in
        let set : AreAfterCommas tag_text names.tags h.after_name (space ∷ begins.0) = rw (after_tags, begins.1) at h.tags in
        let next = next_byte names.tags h.after_name begins.0 set in
        let name = measurement_reads text names.measurement h.after_name next.0 next.1 h.measurement next.2 next.3 plain.measurement in
        let tags = tags_alike names.tags h.after_name begins.0 set plain.escapes plain.commas plain.signs in
        let texts = (spellings_are_read text line names e h).keys in
        let stamped = rw r.rest_is at stamp in
        let fields = fields_alike line.fields names.keys r.after_series h.rest r.after_fields (rw after_tags at h.keys) r.fields_read.longest.separated
        r.fields_read.some h.all_keys plain.fields plain.first texts (after_fields_is r.after_fields line.timestamp stamped) in
        let len : length text - length r.after_series ≡ length line.series = omega (arith, ap length r.series_is, length-append line.series r.after_series) in
        record {
          fields = fields.are;
          keys_are = fields.keys_are;
          values_are = fields.values_are;
          read = parts_found text h.after_name r.after_series begins.0 r.after_fields names.measurement names.tags (map read_of fields.are) line.timestamp
              name (tags ∙ ap (λ (t : List ℕ). reads names.tags t) (sym begins.1)) begins.1 fields.read (time_alike r.after_fields line.timestamp stamped plain.time)
              ∙ ap (λ (n : ℕ). reads (record (parts_of line names fields.are) { series_len = n }) []) len;
        }
