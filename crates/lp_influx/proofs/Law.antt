-- InfluxDB reads of each portable line the point that the strict reader reads.
use Rattle.std.proofs.Common.{◌≡◌, ◌≢◌, ℕ, List, [], ◌∷◌, ◌++◌, length, map, Bool, true, false, ◌==◌, ◌||◌, refl, sym, ap, ◌∙◌, arith, inl, inr, bytes_eq, Some, Ok}
use Rattle.std.proofs.lemmas.{Bool.cases_Bool, Bool.false≢true, Grind.common_steps, Slice.Eq.bytes_eq-Decides}
use Rattle.std.specs.List.{AllByRecursion, list_any}
use Rattle.lp_format.specs.format.{Line, Pair, Strict, Text, Value, a_field_key, a_measurement, a_tag_key, answer, answers_of_piece, backslash, comma, equals, hash, is_escapable}
use Rattle.lp_format.specs.format.{is_one_of, logical, logical_field, logical_tag, nul, point_of, quote, some_tags, space, trimmed}
use Rattle.lp_format.proofs.lemmas.line.TrimLemmas.{left_of, trimmed_is}
use Rattle.lp_portable.specs.format.Portable as portable
use Rattle.lp_portable.specs.format.Portable.{IsOneLine, IsPortable, Limits, begins_with, has_repeats, influx1, is_hundreds, is_long_after}
use Rattle.lp_portable.specs.laws.PortableLaws.{MeansTheSame, TagMeansTheSame, logical_names}
use Rattle.lp_portable.proofs.{HeldBytes.neither, NamesAlike.influx_names_mean_the_same, Spelled.any_map, SpellingsRead.spellings_are_read}
use Rattle.lp_influx.specs.format.InfluxNames.{influx_name, influx_names}
use Rattle.lp_influx.specs.format.InfluxLines.{influx_line, influx_logical, point_of_parts, without_gap}
use Rattle.lp_influx.specs.laws.InfluxLaws.{InfluxReadsPortableLines}
use Rattle.lp_influx.proofs.NameFronts.{NameFront, name_front}
use Rattle.lp_influx.proofs.FieldTexts.{FieldText, flip, read_of}
use Rattle.lp_influx.proofs.SpelledFields.{fewer_escaped}
use Rattle.lp_influx.proofs.Parts.{IsPlainLine, first_of, parts_of, parts_read}
use Rattle.lp_influx.proofs.Starts.{start_alike}

-- A text is not among some texts if its image is not among their images.
not_among : (f : List ℕ → List ℕ) (k : List ℕ) (ks : List (List ℕ)) → list_any (bytes_eq (f k)) (map f ks) ≡ false → list_any (bytes_eq k) ks ≡ false
not_among f k [] h = refl
not_among f k (x ∷ ks) h =
    let both = neither (bytes_eq (f k) (f x)) (list_any (bytes_eq (f k)) (map f ks)) h in
    elim (cases_Bool (bytes_eq k x)) [
      | inl same ↦ absurd (false≢true (sym both.0 ∙ (bytes_eq-Decides (f k) (f x)).1 (ap f ((bytes_eq-Decides k x).0 same))))
      | inr other ↦ rw other (not_among f k ks both.1)
    ]

-- Texts do not repeat if their images do not repeat.
no_repeats : (f : List ℕ → List ℕ) (ks : List (List ℕ)) → has_repeats (map f ks) ≡ false → has_repeats ks ≡ false
no_repeats f [] h = refl
no_repeats f (k ∷ ks) h =
    let both = neither (list_any (bytes_eq (f k)) (map f ks)) (has_repeats (map f ks)) h in
    rw (not_among f k ks both.0, no_repeats f ks both.1) refl

-- the keys of tags, by the logical texts of the tags
keys_of : (xs : List (Pair (List ℕ) (List ℕ))) (ts : List (Pair Text Text)) → map logical_names xs ≡ map logical_tag ts
    → map (logical a_tag_key) (map (λ t. t.key) xs) ≡ map (λ t. t.key.bytes) ts
keys_of [] [] h = refl
keys_of [] (t ∷ ts) h = absurd (omega (arith, ap length h))
keys_of (x ∷ xs) [] h = absurd (omega (arith, ap length h))
keys_of (x ∷ xs) (t ∷ ts) h =
    let first : logical_names x ≡ logical_tag t = cc in
    let others : map logical_names xs ≡ map logical_tag ts = cc in
    rw (ap (λ (p : Pair (List ℕ) (List ℕ)). p.key) first, keys_of xs ts others) refl

-- The escapes of a tag are those of the strict reader, except for the backslash.
tag_escapes : (b : ℕ) → is_one_of (backslash ∷ []) b ≡ false → is_one_of (comma ∷ space ∷ equals ∷ []) b ≡ is_escapable a_tag_key b
tag_escapes b none = grind (arith, common_steps, cases_Bool)

-- The escapes of a field key are those of the strict reader, except for the backslash and the quote.
key_escapes : (b : ℕ) → is_one_of (backslash ∷ quote ∷ []) b ≡ false → is_one_of (comma ∷ quote ∷ space ∷ equals ∷ []) b ≡ is_escapable a_field_key b
key_escapes b none = grind (arith, common_steps, cases_Bool)

-- The escapes of a measurement are those of the strict reader, except for the backslash, the quote and the equals sign.
measurement_escapes : (b : ℕ) → is_one_of (backslash ∷ quote ∷ equals ∷ []) b ≡ false
    → is_one_of (comma ∷ quote ∷ space ∷ equals ∷ []) b ≡ is_escapable a_measurement b
measurement_escapes b none = grind (arith, common_steps, cases_Bool)

-- tags that mean the same have the same texts
tag_texts : (tags : List (Pair (List ℕ) (List ℕ))) → AllByRecursion TagMeansTheSame tags → map influx_names tags ≡ map logical_names tags
tag_texts [] all = refl
tag_texts (t ∷ tags) all =
    rw ((all.0.0 (comma ∷ space ∷ equals ∷ []) tag_escapes).1, (all.0.1 (comma ∷ space ∷ equals ∷ []) tag_escapes).1, tag_texts tags all.1) refl

-- Fields whose keys mean the same have the same logical texts.
field_texts : (xs : List FieldText) (fields : List (Pair Text (Value Text))) → AllByRecursion (MeansTheSame (backslash ∷ quote ∷ []) a_field_key) (map (λ f. f.key) xs)
    → map (logical a_field_key) (map (λ f. f.key) xs) ≡ map (λ f. f.key.bytes) fields → map (λ f. f.value) xs ≡ map (λ f. f.value) fields
    → map influx_logical (map read_of xs) ≡ map logical_field fields
field_texts [] [] all keys values = refl
field_texts [] (f ∷ fields) all keys values = absurd (omega (arith, ap length keys))
field_texts (x ∷ xs) [] all keys values = absurd (omega (arith, ap length keys))
field_texts (x ∷ xs) (f ∷ fields) all keys values =
    let key : logical a_field_key x.key ≡ f.key.bytes = cc in
    let other_keys : map (logical a_field_key) (map (λ g. g.key) xs) ≡ map (λ g. g.key.bytes) fields = cc in
    let val : x.value ≡ f.value = cc in
    let other_values : map (λ g. g.value) xs ≡ map (λ g. g.value) fields = cc in
    rw ((all.0 (comma ∷ quote ∷ space ∷ equals ∷ []) key_escapes).1, key, val, field_texts xs fields all.1 other_keys other_values) refl

-- A line that is portable to InfluxDB meets the conditions on a line.
plain_line : (limits : Limits) (text : List ℕ) (p : IsPortable influx1 limits text) → IsPlainLine (trimmed text) p.line p.names
plain_line limits text p =
    let keeps = p.keeps in
    record {
      measurement = fewer_escaped (backslash ∷ quote ∷ []) (backslash ∷ []) p.names.measurement
          (λ b h. rw (neither (backslash == b) (quote == b || false) h).0 refl) (keeps portable.measurement_escape refl);
      escapes = keeps portable.tag_escape refl;
      commas = keeps portable.tag_key_comma refl;
      signs = keeps portable.tag_value_equals refl;
      fields = record {
        escapes = keeps portable.field_key_escape refl;
        commas = keeps portable.field_key_comma refl;
        signed = keeps portable.unsigned refl;
        finite = keeps portable.infinite_float refl;
      };
      first = keeps portable.leading_nul refl;
      time = keeps portable.time_out_of_range refl;
    }

-- The point of the parts of a portable line is the point that the strict reader reads.
point_alike : (limits : Limits) (text : List ℕ) (p : IsPortable influx1 limits text) (fields : List FieldText)
    → answer Strict (trimmed text) ≡ Ok p.line → map (λ f. f.key) fields ≡ p.names.keys → map (λ f. f.value) fields ≡ map (λ f. f.value) p.line.fields
    → point_of_parts (parts_of p.line p.names fields) ≡ Some (point_of p.line)
point_alike limits text p fields e keys values =
    let spelt = spellings_are_read (trimmed text) p.line p.names e p.are_names in
    let same = influx_names_mean_the_same limits text p in
    let logical_keys = keys_of p.names.tags (some_tags p.line.tags) spelt.tags in
    let repeats = no_repeats (logical a_tag_key) (map (λ t. t.key) p.names.tags) (ap has_repeats logical_keys ∙ p.keeps portable.repeated_tag refl) in
    let hundreds : is_hundreds (length p.names.tags) ≡ false = ap is_hundreds p.are_names.all_tags ∙ p.keeps portable.tag_count refl in
    let n = length p.line.series in
    let long : list_any (λ f. is_long_after n f.key) (map read_of fields) ≡ false =
    any_map (λ f. is_long_after n f.key) read_of fields ∙ sym (any_map (is_long_after n) (λ f. f.key) fields) ∙ ap (list_any (is_long_after n)) keys
    ∙ p.keeps portable.long_series refl in
    let name : influx_name p.names.measurement ≡ p.line.measurement.bytes =
    (same.measurement (comma ∷ quote ∷ space ∷ equals ∷ []) measurement_escapes).1 ∙ spelt.measurement in
    let tags : map influx_names p.names.tags ≡ map logical_tag (some_tags p.line.tags) = tag_texts p.names.tags same.tags ∙ spelt.tags in
    let texts = field_texts fields p.line.fields (rw keys same.keys) (ap (map (logical a_field_key)) keys ∙ spelt.keys) values in
    rw (repeats, hundreds, long, name, tags, texts) refl

-- The line that was read of a piece is the answer for the trimmed piece.
line_answer : (text : List ℕ) (line : Line) → answers_of_piece Strict text ≡ Ok line ∷ [] → answer Strict (trimmed text) ≡ Ok line
unfolding answers_of_piece
line_answer text line e = elim (cases_Bool (length (trimmed text) == 0)) [
  | inl blank ↦ let never = rw blank at e in absurd (omega (arith, ap length never))
  | inr some ↦ let same = rw some at e in cc
]

-- The text that is left after blanks does not begin with a comment.
left_begins : (in_comment : Bool) (text : List ℕ) → begins_with hash (left_of in_comment text) ≡ false
left_begins in_comment [] = refl
left_begins in_comment (b ∷ rest) = grind (arith, cases_Bool, left_begins false rest, left_begins true rest)

-- a text that begins with a measurement is not empty, and begins with no byte 0
measurement_begins : (text name rest : List ℕ) → NameFront a_measurement text name rest → (text ≢ []) × (begins_with nul text ≡ false)
measurement_begins text [] rest f = absurd (omega (arith, f.some))
measurement_begins text (b ∷ name) rest f =
    let none = first_of (nul ∷ []) b name refl (f.bare_bytes (nul ∷ []) refl (λ c h. grind (arith, common_steps, cases_Bool, neither, h))) in
    let other : begins_with nul (b ∷ (name ++ rest)) ≡ false = flip_byte (neither (nul == b) false none).0 in
    (λ empty. absurd (omega (arith, ap length (sym empty ∙ f.whole))), ap (begins_with nul) f.whole ∙ other)
  where
    -- Two different bytes are different in the other order too.
    flip_byte : (nul == b) ≡ false → (b == nul) ≡ false
    flip_byte h = flip nul b h

-- From each portable line, both readers read the same point.
pub influx_reads_portable_lines : InfluxReadsPortableLines
unfolding influx_line
influx_reads_portable_lines limits text p =
    let e = line_answer text p.line p.is_line.read in
    let begins = measurement_begins (trimmed text) p.names.measurement p.are_names.after_name
    (name_front a_measurement (trimmed text) p.names.measurement p.are_names.after_name p.are_names.measurement) in
    let left = trimmed_is text in
    let start : without_gap text ≡ trimmed text =
    start_alike text p.is_line.piece (λ none. begins.0 (left ∙ none)) (ap (begins_with nul) (sym left) ∙ begins.1) ∙ sym left in
    let no_comment : begins_with hash (trimmed text) ≡ false = ap (begins_with hash) left ∙ left_begins false text in
    let found = parts_read (trimmed text) p.line p.names e p.are_names (plain_line limits text p) in
    rw (start, no_comment, found.read) (point_alike limits text p found.fields e found.keys_are found.values_are)
