-- The clauses that the code finds broken are the clauses that are broken by the definition.
use Rattle.std.proofs.Common.{◌≡◌, ℕ, ◌+◌, not, List, ◌∷◌, [], length, map, option_map, Some, None, codes, nat_lt, bytes_eq, refl, sym, ap, ◌∙◌}
use Rattle.std.proofs.lemmas.List.{length-map}
use Rattle.lp_format.specs.format.{is_one_of, quote, some_tags}
use Rattle.lp_values.specs.{declared.escaped.EscapedStr.EscapedStr, declared.values.FieldValue.FieldValue, code.Texts.text_of}
use Rattle.lp_lines.specs.{declared.parsed.ParsedLine.ParsedLine, code.Lookups.some_items, code.Parsed.field_of, code.Parsed.line_read, code.Parsed.tag_of}
use Rattle.lp_lines.specs.code.Parsed.{tags_of}
use Rattle.lp_portable.specs.declared.{broken.Broken.Broken, broken.Clause.Clause, limits.Limits.Limits, names.NameBreaks.NameBreaks, portable.Parts.Parts, portable.Repeats.Repeats}
use Rattle.lp_portable.specs.code.{ByCode.ArePartsOf, ByCode.broken_by_code, Walks.keys_in, Walks.name_breaks, Walks.repeats_of}
use Rattle.lp_portable.specs.format.Portable.{breaks, has_control, is_rounded, has_repeats, is_finite, is_hundreds, is_system_key, is_unsigned}
use Rattle.lp_portable.specs.format.Spellings.{Spelling}
use Rattle.lp_portable.specs.code.Clauses.{clause_of, is_broken, limits_of}
use Rattle.lp_portable.proofs.Spelled.{any_map}

-- the keys of tags
tag_keys : (tags : List (EscapedStr × EscapedStr)) → keys_in tags ≡ map (λ t. t.key.bytes) (map tag_of tags)
tag_keys [] = refl
tag_keys (t ∷ tags) = ap (λ (keys : List (List ℕ)). text_of t.0 ∷ keys) (tag_keys tags)

-- The keys of parsed fields are the keys of the fields that were read.
field_keys : (fields : List (EscapedStr × FieldValue)) → keys_in fields ≡ map (λ f. f.key.bytes) (map field_of fields)
field_keys [] = refl
field_keys (f ∷ fields) = ap (λ (keys : List (List ℕ)). text_of f.0 ∷ keys) (field_keys fields)

-- the tags of a line
pub tags_are : (read : ParsedLine) → some_tags (line_read read).tags ≡ map tag_of (some_items read.series.tag_set)
tags_are read = by_set read.series.tag_set
  where
    -- The tags of a set are its items, by whether there is a set.
    by_set : (set : _) → some_tags (option_map tags_of set) ≡ map tag_of (some_items set)
    by_set None = refl
    by_set (Some tags) = refl

-- Each clause is broken by the code exactly if it is broken by the definition.
pub code_is : (limits : Limits) (text : List ℕ) (read : ParsedLine) (names : Spelling) (given : Parts) → ArePartsOf read given
    → (clause : Clause)
    → is_broken (broken_by_code limits text given (repeats_of read) (name_breaks (length read.series.raw_input.now) names)) clause
    ≡ breaks (limits_of limits) text (line_read read) names (clause_of clause)
code_is limits text read names given parts Clause.LeadingBlank = refl
code_is limits text read names given parts Clause.TrailingSpace = refl
code_is limits text read names given parts Clause.Newline = refl
code_is limits text read names given parts Clause.MeasurementEquals = refl
code_is limits text read names given parts Clause.MeasurementEscape = refl
code_is limits text read names given parts Clause.TagEscape = refl
code_is limits text read names given parts Clause.TagKeyComma = refl
code_is limits text read names given parts Clause.TagValueEquals = refl
code_is limits text read names given parts Clause.RepeatedTag = rw (tags_are read) (ap has_repeats (tag_keys (some_items read.series.tag_set)))
code_is limits text read names given parts Clause.FieldKeyEscape = refl
code_is limits text read names given parts Clause.FieldKeyComma = refl
code_is limits text read names given parts Clause.FieldKeyQuote = rw parts.fields (sym (any_map (λ f. is_one_of f.key.bytes quote) field_of read.field_set.items))
code_is limits text read names given parts Clause.LongSeries = refl
code_is limits text read names given parts Clause.Unsigned = rw parts.fields (sym (any_map (λ f. is_unsigned f.value) field_of read.field_set.items))
code_is limits text read names given parts Clause.InfiniteFloat = rw parts.fields (sym (any_map (λ f. not (is_finite f.value)) field_of read.field_set.items))
code_is limits text read names given parts Clause.RoundedFloat = rw parts.fields (sym (any_map (λ f. is_rounded f.value) field_of read.field_set.items))
code_is limits text read names given parts Clause.LeadingNul = rw parts.fields refl
code_is limits text read names given parts Clause.TimeOutOfRange = rw parts.timestamp refl
code_is limits text read names given parts Clause.TagCount = rw (parts.tags, tags_are read) (ap is_hundreds (sym (length-map (some_items read.series.tag_set) tag_of)))
code_is limits text read names given parts Clause.TimeName = rw (parts.tags, parts.fields, tags_are read, any_map (λ t. bytes_eq t.key.bytes (codes "time")) tag_of (some_items read.series.tag_set), any_map (λ f. bytes_eq f.key.bytes (codes "time")) field_of read.field_set.items) refl
code_is limits text read names given parts Clause.SystemName = rw (parts.measurement, parts.fields, any_map (λ f. is_system_key f.key.bytes) field_of read.field_set.items) refl
code_is limits text read names given parts Clause.RepeatedField = ap has_repeats (field_keys read.field_set.items)
code_is limits text read names given parts Clause.KeySeparator = rw parts.series refl
code_is limits text read names given parts Clause.ControlByte = rw (parts.measurement, parts.fields, any_map (λ f. has_control f.key.bytes) field_of read.field_set.items) refl
code_is limits text read names given parts Clause.NameLabel = rw (parts.tags, tags_are read) (sym (any_map (λ t. bytes_eq t.key.bytes (codes "__name__")) tag_of (some_items read.series.tag_set)))
code_is limits text read names given parts Clause.LongTagKey = rw (parts.tags, tags_are read) (sym (any_map (λ t. nat_lt 256 (length t.key.bytes)) tag_of (some_items read.series.tag_set)))
code_is limits text read names given parts Clause.LongTagValue = rw (parts.tags, tags_are read) (sym (any_map (λ t. nat_lt 16384 (length t.value.bytes)) tag_of (some_items read.series.tag_set)))
code_is limits text read names given parts Clause.LongMetricName = rw (parts.measurement, parts.fields) (sym (any_map (λ f. nat_lt 16384 (length (text_of read.series.measurement) + 1 + length f.key.bytes)) field_of read.field_set.items))
code_is limits text read names given parts Clause.LongLabels = rw (parts.series, parts.fields) (sym (any_map (λ f. nat_lt 32000 (length read.series.raw_input.now + 1 + length f.key.bytes)) field_of read.field_set.items))
code_is limits text read names given parts Clause.TooManyTags = rw (parts.tags, tags_are read) (ap (nat_lt limits.tags) (sym (length-map (some_items read.series.tag_set) tag_of)))
code_is limits text read names given parts Clause.LongLine = refl
code_is limits text read names given parts Clause.TimeNotKept = rw parts.timestamp refl

-- Each clause that the code found from its parts, repeats and spelled names is broken exactly if it is broken by the definition.
pub told_is : (limits : Limits) (text : List ℕ) (read : ParsedLine) (names : Spelling) (given : Parts) (repeats : Repeats) (told : NameBreaks)
    (result : Broken) → ArePartsOf read given → repeats ≡ repeats_of read → told ≡ name_breaks (length given.series.now) names
    → result ≡ broken_by_code limits text given repeats told
    → (clause : Clause) → is_broken result clause ≡ breaks (limits_of limits) text (line_read read) names (clause_of clause)
told_is limits text read names given repeats told result parts repeated spelled is clause =
    let len = ap length parts.series in
    let same = is ∙ ap (λ (r : Repeats). broken_by_code limits text given r told) repeated
    ∙ ap (λ (n : NameBreaks). broken_by_code limits text given (repeats_of read) n) (spelled ∙ ap (λ (n : ℕ). name_breaks n names) len) in
    ap (λ (b : Broken). is_broken b clause) same ∙ code_is limits text read names given parts clause
