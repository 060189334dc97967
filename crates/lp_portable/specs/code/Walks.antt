-- The clauses that the spelled names of a line break, found in one walk over the names.
use Rattle.std.specs.Prelude.{◌≡◌, ℕ, ◌||◌, List, [], ◌∷◌, map, Option, Some, None}
use Rattle.std.specs.{Borrow.Bor, List.list_any}
use Rattle.lp_format.specs.format.{Pair, Reading, equals, reads}
use Rattle.lp_portable.specs.declared.names.{TagBreaks.TagBreaks, KeyBreaks.KeyBreaks, NameBreaks.NameBreaks}
use Rattle.lp_values.specs.{declared.escaped.EscapedStr.EscapedStr, code.Texts.text_of}
use Rattle.lp_portable.specs.format.Spellings.{Spelling, holds}
use Rattle.lp_portable.specs.format.Portable.{has_bare_comma, has_comma, has_escape, has_marked_escape, has_repeats, has_sign, is_long_after}
use Rattle.lp_portable.specs.declared.portable.Repeats.{Repeats}
use Rattle.lp_lines.specs.{declared.parsed.ParsedLine.ParsedLine, code.Lookups.some_items}

-- With a result, viewed in this way, the reading gives this result. Without a result, nothing is read.
abbrev pub GivesReading : {X A : Type 0} → (X → A) → Option (X × Bor (List ℕ)) → Reading A → Type 0
GivesReading {A = A} view None reading = (x : A) (rest : List ℕ) → ¬ (reading ≡ reads x rest)
GivesReading view (Some p) reading = reading ≡ reads (view p.0) p.1.now

-- The spelled names of a tag that is lent.
abbrev pub spelled_pair : Bor (List ℕ) × Bor (List ℕ) → Pair (List ℕ) (List ℕ)
spelled_pair t = record { key = t.0.now; value = t.1.now }

-- The clauses about spelled tags that one tag breaks.
abbrev pub tag_breaks : Pair (List ℕ) (List ℕ) → TagBreaks
tag_breaks t = record { escape = has_escape t; comma = has_comma t; sign = has_sign t }

-- The clauses that one of two findings about tags has.
abbrev pub either_tag : TagBreaks → TagBreaks → TagBreaks
either_tag a b = record { escape = a.escape || b.escape; comma = a.comma || b.comma; sign = a.sign || b.sign }

-- The clauses about spelled tags that some tag of a list breaks.
abbrev pub tags_breaks : List (Pair (List ℕ) (List ℕ)) → TagBreaks
tags_breaks tags = record { escape = list_any has_escape tags; comma = list_any has_comma tags; sign = list_any has_sign tags }

-- The clauses about field keys that one field key breaks, after a series of this length.
abbrev pub key_breaks : ℕ → List ℕ → KeyBreaks
key_breaks series_len key = record { escape = has_marked_escape key; comma = has_bare_comma key; long = is_long_after series_len key }

-- The clauses that one of two findings about field keys has.
abbrev pub either_key : KeyBreaks → KeyBreaks → KeyBreaks
either_key a b = record { escape = a.escape || b.escape; comma = a.comma || b.comma; long = a.long || b.long }

-- The clauses about field keys that some key of a list breaks, after a series of this length.
abbrev pub keys_breaks : ℕ → List (List ℕ) → KeyBreaks
keys_breaks series_len keys =
    record { escape = list_any has_marked_escape keys; comma = list_any has_bare_comma keys; long = list_any (is_long_after series_len) keys }

-- The clauses that the names of a line break, after a series of this length.
abbrev pub name_breaks : ℕ → Spelling → NameBreaks
name_breaks series_len names =
    record {
      equals = holds (equals ∷ []) [] names.measurement;
      escape = has_marked_escape names.measurement;
      tags = tags_breaks names.tags;
      keys = keys_breaks series_len names.keys;
    }

-- The keys of tags or fields.
abbrev pub keys_in : {X : Type 0} → List (EscapedStr × X) → List (List ℕ)
keys_in items = map (λ x. text_of x.0) items

-- The most keys that are compared with one another.
abbrev pub most_compared : ℕ
most_compared = 32

-- Whether a tag key and whether a field key of a line is repeated.
abbrev pub repeats_of : ParsedLine → Repeats
repeats_of read = record { tag = has_repeats (keys_in (some_items read.series.tag_set)); field = has_repeats (keys_in read.field_set.items) }
