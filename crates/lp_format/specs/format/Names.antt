-- Names: measurements, keys and tag values.
use Rattle.std.specs.Prelude.{ℕ, ◌-◌, ◌==◌, ◌&&◌, ◌||◌, Bool, false, not, List, [], ◌∷◌, length, take, drop, slice_index, if◌then◌else◌}
use Rattle.lp_format.specs.format.Bytes.{nul, tab, newline, space, comma, equals, backslash, is_one_of}
use Rattle.lp_format.specs.format.Escapes.{first_bare, without_escapes}
use Rattle.lp_format.specs.format.Readings.{Text, Reading, miss, fatal, reads, ends_with_backslash}

-- the kinds of names
pub data NameKind : Type 0 where
  a_measurement a_tag_key a_tag_value a_field_key : NameKind

-- the bytes that a backslash may escape in a name of this kind: the known escapes
abbrev pub escapable : NameKind → List ℕ
escapable a_measurement = comma ∷ space ∷ backslash ∷ []
escapable other = comma ∷ equals ∷ space ∷ backslash ∷ []

-- whether a bare byte ends a name of this kind
abbrev pub is_stop : NameKind → ℕ → Bool
is_stop a_measurement b = is_one_of (space ∷ tab ∷ newline ∷ nul ∷ comma ∷ []) b
is_stop a_tag_value b = is_one_of (space ∷ tab ∷ newline ∷ comma ∷ []) b
is_stop other b = is_one_of (space ∷ tab ∷ newline ∷ equals ∷ []) b

-- whether a backslash escapes the byte in a name of this kind
abbrev pub is_escapable : NameKind → ℕ → Bool
is_escapable kind b = is_one_of (escapable kind) b

-- how many bytes of the text spell the name at the start: all before the first bare byte that ends it
abbrev pub spelled_len : NameKind → List ℕ → ℕ
spelled_len kind text = first_bare (is_stop kind) text

-- the spelled text of the name at the start
abbrev pub spelled : NameKind → List ℕ → List ℕ
spelled kind text = take (spelled_len kind text) text

-- the logical text of the spelling of a name
abbrev pub logical : NameKind → List ℕ → List ℕ
logical kind spelling = without_escapes (escapable kind) spelling

-- whether a text ends in a backslash
abbrev pub ends_in_backslash : List ℕ → Bool
ends_in_backslash text = slice_index text (length text - 1) == backslash

-- whether a text is one known escape and nothing else
abbrev pub is_one_escape : List ℕ → List ℕ → Bool
is_one_escape known (b ∷ c ∷ []) = b == backslash && is_one_of known c
is_one_escape known text = false

-- whether the logical text of a spelling is a part of the spelling: the spelling holds no backslash, or is one known escape
abbrev pub is_shared : List ℕ → List ℕ → Bool
is_shared known spelling = is_one_escape known spelling || not (is_one_of spelling backslash)

-- the text that a spelling with these known escapes is read as
abbrev pub read_text : List ℕ → List ℕ → Text
read_text known spelling = record { bytes = without_escapes known spelling; is_single = is_shared known spelling }

-- reads the name at the start of a text: an empty name misses, and a name that ends in a backslash is fatal
unfoldable pub name : NameKind → List ℕ → Reading Text
name kind text =
    if length (spelled kind text) == 0 then miss
    else if ends_in_backslash (logical kind (spelled kind text)) then fatal ends_with_backslash
    else reads (read_text (escapable kind) (spelled kind text)) (drop (spelled_len kind text) text)
