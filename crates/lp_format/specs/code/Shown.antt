-- The bytes that `{}` writes for values, series and lines. No backslash is doubled.
use Rattle.std.specs.Prelude.{ℕ, zero, suc, ◌==◌, ℤ, List, [], ◌∷◌, ◌++◌, not, Option, Some, None, filter}
use Rattle.std.specs.List.{join_by}
use Rattle.lp_format.specs.format.{space, comma, equals, backslash, escaped, NameKind, a_measurement, a_tag_key, a_tag_value, a_field_key}
use Rattle.lp_format.specs.format.{escapable, Text, quotable, Value, Pair, Line, written_value, built_timestamp}

-- the bytes that `{}` writes a backslash before: the escapable bytes without the backslash
abbrev pub shown_escapes : List ℕ → List ℕ
shown_escapes known = filter (λ b. not (b == backslash)) known

-- the bytes that `{}` writes for a name of this kind
abbrev pub shown_name : NameKind → Text → List ℕ
shown_name kind name = escaped (shown_escapes (escapable kind)) name.bytes

-- the bytes that `{}` writes for a value; a string has no quotes around it
abbrev pub shown_value : Value Text → List ℕ
shown_value v = written_value (λ text. escaped (shown_escapes quotable) text.bytes) v

-- the bytes that `{}` writes for a tag: its key, `=` and its value
abbrev pub shown_tag : Pair Text Text → List ℕ
shown_tag t = shown_name a_tag_key t.key ++ equals ∷ shown_name a_tag_value t.value

-- the bytes that `{}` writes for a field: its key, `=` and its value
abbrev pub shown_field : Pair Text (Value Text) → List ℕ
shown_field f = shown_name a_field_key f.key ++ equals ∷ shown_value f.value

-- a comma before each item of a list except the first, by the place of the item in the list
abbrev pub comma_before : ℕ → List ℕ
comma_before zero = []
comma_before (suc place) = comma ∷ []

-- the bytes that `{}` writes for a tag set, if there is one: a comma and the tags, and only the comma if the set is empty
abbrev pub shown_tags : Option (List (Pair Text Text)) → List ℕ
shown_tags None = []
shown_tags (Some tags) = comma ∷ join_by shown_tag (comma ∷ []) tags

-- the bytes that `{}` writes for a series: its measurement and its tag set
abbrev pub shown_series : Text → Option (List (Pair Text Text)) → List ℕ
shown_series measurement tags = shown_name a_measurement measurement ++ shown_tags tags

-- the bytes that `{}` writes for fields: a space and the fields joined by commas, or nothing if there are no fields
abbrev pub shown_fields : List (Pair Text (Value Text)) → List ℕ
shown_fields [] = []
shown_fields (f ∷ fields) = space ∷ join_by shown_field (comma ∷ []) (f ∷ fields)

-- the bytes that `{}` writes for a timestamp: a space and the number, or nothing if there is no timestamp
abbrev pub shown_timestamp : Option ℤ → List ℕ
shown_timestamp timestamp = built_timestamp timestamp

-- the bytes that `{}` writes for a line: its series, fields and timestamp
abbrev pub shown_line : Line → List ℕ
shown_line l = shown_series l.measurement l.tags ++ shown_fields l.fields ++ shown_timestamp l.timestamp
