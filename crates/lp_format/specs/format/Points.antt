-- Points, which of them are admitted, and the lines that the builder writes for them.
use Rattle.std.specs.Prelude.{ℕ, ◌<◌, ℤ, ◌≡◌, ◌==◌, ◌&&◌, ◌^◌, Bool, true, false, not, List, [], ◌∷◌, ◌++◌, length, slice_index, codes}
use Rattle.std.specs.Prelude.{Option, Some, None, decimal, IfSome, flat_map}
use Rattle.std.specs.{List.list_all, List.AllByRecursion, Fmt.signed_decimal}
use Rattle.lp_format.specs.format.Bytes.{nul, tab, newline, space, quote, hash, comma, equals, letter_i, letter_u, is_one_of, newlines_in}
use Rattle.lp_format.specs.format.Dialects.{Dialect, NewlineDelimited}
use Rattle.lp_format.specs.format.Escapes.{escaped}
use Rattle.lp_format.specs.format.Names.{NameKind, a_measurement, a_tag_key, a_tag_value, a_field_key, escapable, ends_in_backslash}
use Rattle.lp_format.specs.format.Values.{IsFloat, Value, integer, unsigned, float, string, boolean, quotable, fits_i64}

-- a key and its value: a tag, or a field
pub record Pair (K A : Type 0) : Type 0 where
  pub key : K
  pub value : A

-- a tag with the logical texts of its key and its value
abbrev pub Tag : Type 0
Tag = Pair (List ℕ) (List ℕ)

-- a field with the logical texts of its key and of its string
abbrev pub Field : Type 0
Field = Pair (List ℕ) (Value (List ℕ))

-- a point: the measurement, tags, fields and timestamp of a line, with their logical texts
pub record Point : Type 0 where
  pub measurement : List ℕ
  pub tags : List Tag
  pub fields : List Field
  pub timestamp : Option ℤ

-- a value of a point: a number in the range of its type, a float literal, any string, or a Boolean
abbrev pub IsValue : Value (List ℕ) → Type 0
IsValue (integer z) = fits_i64 z ≡ true
IsValue (unsigned n) = n < 2 ^ 64
IsValue (float t) = IsFloat t
IsValue other = Unit {0}

-- a point with at least one field, with numbers in range and with literals for its floats; its names and strings can be any texts
pub record IsPoint (p : Point) : Type 0 where
  pub some_field : 0 < length p.fields
  pub values : AllByRecursion (λ f. IsValue f.value) p.fields
  pub timestamp : IfSome p.timestamp (λ t. fits_i64 t ≡ true)

-- the bytes that a name of this kind must not hold, because no escape keeps them in the name
abbrev pub never_in : NameKind → List ℕ
never_in a_measurement = tab ∷ newline ∷ nul ∷ []
never_in other = tab ∷ newline ∷ []

abbrev is_measurement : NameKind → Bool
is_measurement a_measurement = true
is_measurement other = false

-- whether a name is admitted: it is not empty, holds no tab and no newline, and does not end in a backslash; a
-- measurement, besides, holds no NUL and does not begin with `#`
unfoldable pub is_admitted_name : NameKind → List ℕ → Bool
is_admitted_name kind name =
    not (length name == 0) && not (ends_in_backslash name) && list_all (λ b. not (is_one_of (never_in kind) b)) name
    && not (slice_index name 0 == hash && is_measurement kind)

-- whether both names of a tag are admitted
abbrev pub is_admitted_tag : Tag → Bool
is_admitted_tag t = is_admitted_name a_tag_key t.key && is_admitted_name a_tag_value t.value

-- whether the key of a field is admitted
abbrev pub is_admitted_field : Field → Bool
is_admitted_field f = is_admitted_name a_field_key f.key

-- whether all names of a point are admitted
unfoldable pub is_admitted_point : Point → Bool
is_admitted_point p = is_admitted_name a_measurement p.measurement && list_all is_admitted_tag p.tags && list_all is_admitted_field p.fields

-- whether a text holds no newline
abbrev pub is_on_one_line : List ℕ → Bool
is_on_one_line text = list_all (λ b. not (b == newline)) text

-- whether the text of a value has no newline: the value is not a string that holds one
abbrev pub is_value_on_one_line : Value (List ℕ) → Bool
is_value_on_one_line (string t) = is_on_one_line t
is_value_on_one_line other = true

-- whether a point is admitted in a dialect: all its names are admitted, and, in the newline-delimited dialect, no string holds a newline
abbrev pub is_admitted_in : Dialect → Point → Bool
is_admitted_in NewlineDelimited p = is_admitted_point p && list_all (λ f. is_value_on_one_line f.value) p.fields
is_admitted_in other p = is_admitted_point p

-- a name as the builder spells it
abbrev pub spelling : NameKind → List ℕ → List ℕ
spelling kind name = escaped (escapable kind) name

-- the text of a value, where `written` gives the text of a string
abbrev pub written_value : {T : Type 0} → (T → List ℕ) → Value T → List ℕ
written_value written (integer z) = signed_decimal z ++ letter_i ∷ []
written_value written (unsigned n) = decimal n ++ letter_u ∷ []
written_value written (float t) = t
written_value written (string t) = written t
written_value written (boolean true) = codes "true"
written_value written (boolean false) = codes "false"

-- a value as the builder spells it
abbrev pub built_value : Value (List ℕ) → List ℕ
built_value v = written_value (λ t. quote ∷ escaped quotable t ++ quote ∷ []) v

-- a tag with the comma before it
abbrev pub built_tag : Tag → List ℕ
built_tag t = comma ∷ spelling a_tag_key t.key ++ equals ∷ spelling a_tag_value t.value

-- the text of a field whose value has this text: the spelled key, `=` and the value
abbrev pub field_text : List ℕ → List ℕ → List ℕ
field_text key value = spelling a_field_key key ++ equals ∷ value

-- the text of a field: the spelled key, `=` and the value
abbrev pub built_field : Field → List ℕ
built_field f = field_text f.key (built_value f.value)

-- the text of fields: the byte `before` comes before the first field, and a comma before each other field
abbrev pub built_fields : ℕ → List Field → List ℕ
built_fields before [] = []
built_fields before (f ∷ fields) = before ∷ built_field f ++ built_fields comma fields

-- the text of a timestamp: a space and the number, or nothing if there is no timestamp
abbrev pub built_timestamp : Option ℤ → List ℕ
built_timestamp None = []
built_timestamp (Some t) = space ∷ signed_decimal t

-- the line of a point, without its newline
unfoldable pub line_of : Point → List ℕ
line_of p = spelling a_measurement p.measurement ++ flat_map built_tag p.tags ++ built_fields space p.fields ++ built_timestamp p.timestamp

-- the text that the builder writes for a point: its line and a newline
abbrev pub built : Point → List ℕ
built p = line_of p ++ newline ∷ []

-- the text that the builder writes for points
abbrev pub built_all : List Point → List ℕ
built_all points = flat_map built points

-- a text is as written if it is the line of a point whose names are all admitted
pub record IsAsWritten (text : List ℕ) : Type 0 where
  pub point : Point
  pub is_point : IsPoint point
  pub admitted : is_admitted_point point ≡ true
  pub written : line_of point ≡ text

-- a text is as written in a dialect if it is as written and, in the newline-delimited dialect, holds no newline
abbrev pub IsAsWrittenIn : Dialect → List ℕ → Type 0
IsAsWrittenIn NewlineDelimited text = (newlines_in text ≡ 0) × IsAsWritten text
IsAsWrittenIn other text = IsAsWritten text
