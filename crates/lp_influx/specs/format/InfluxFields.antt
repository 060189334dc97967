-- Fields, as InfluxDB 1.x reads them, in two scans. The first scan finds the end of the fields, and checks that each field has a value. The
-- second scan reads the fields.
use Rattle.std.specs.Prelude.{ℕ, ◌+◌, ◌-◌, ◌==◌, ◌&&◌, ◌||◌, Bool, true, false, not, List, [], ◌∷◌, length, take, drop, slice_index, nat_lt}
use Rattle.std.specs.Prelude.{Option, Some, None, if◌then◌else◌}
use Rattle.lp_format.specs.format.{Pair, Reading, Text, Value, ◌>>=◌, ◌otherwise◌, backslash, boolean_at, byte, comma, digits_len, equals, exponent_len}
use Rattle.lp_format.specs.format.{false_words, float, float_at, front_before, integer_at, is_one_of, minus, miss, quotable, quote, read_text, reads, separated_list}
use Rattle.lp_format.specs.format.{space, string, true_words, unsigned_at}
use Rattle.lp_portable.specs.format.Portable.{begins_with, is_finite}
use Rattle.lp_influx.specs.format.InfluxNames.{until}

-- Whether the text is empty, or begins with a comma or a space.
abbrev pub is_literal_end : List ℕ → Bool
is_literal_end [] = true
is_literal_end (b ∷ rest) = is_one_of (comma ∷ space ∷ []) b

-- A literal, if it ends where it was read and is finite.
abbrev pub ended : Reading (Value Text) → Reading (Value Text)
ended (reads x rest) = if is_literal_end rest && is_finite x then reads x rest else miss
ended other = miss

-- The number of bytes of a number that has a point and a digit before or after the point; 0 if there is no such number.
abbrev pub pointed_len : List ℕ → ℕ
pointed_len text =
    let sign = if slice_index text 0 == minus then 1 else 0 in
    let whole = digits_len (drop sign text) in
    let point = sign + whole in
    let fraction = digits_len (drop (point + 1) text) in
    let front = point + 1 + fraction in
    if begins_with 46 (drop point text) && nat_lt 0 (whole + fraction) then front + exponent_len (drop front text) else 0

-- Reads a number that has a point and a digit before or after the point.
abbrev pub pointed_at : List ℕ → Reading (Value Text)
pointed_at text = if pointed_len text == 0 then miss else reads (float (take (pointed_len text) text)) (drop (pointed_len text) text)

-- Reads a number or a boolean: an integer in its range, or a finite float, also a float without digits before its point or after it.
unfoldable pub literal : List ℕ → Reading (Value Text)
literal text =
    ended (integer_at text) otherwise ended (float_at text) otherwise ended (pointed_at text) otherwise ended (boolean_at true true_words text)
    otherwise ended (boolean_at false false_words text)

-- Whether a value is at the start of the text: the quote of a string, or a literal.
abbrev pub has_value : List ℕ → Bool
has_value text = begins_with quote text || is_read (literal text)
  where
    is_read : Reading (Value Text) → Bool
    is_read (reads x rest) = true
    is_read other = false

-- The thing directly before a byte of the fields: a backslash that escapes the byte; a backslash that is escaped itself; the comma or the
-- space after which a key begins; or any other byte.
pub data Before : Type 0 where
  an_escape a_backslash a_divider a_byte : Before

-- The text after the fields: nothing, or the text from the first space that is neither escaped nor in quotes. A backslash escapes any byte.
-- A quote counts if more equals signs than commas came before it, and the bytes up to the next such quote are in quotes. Each equals sign
-- outside of quotes must have a key before it and a value after it. At the end there must be one more of these equals signs than commas.
-- The arguments are the numbers of equals signs and commas so far, whether the text is in quotes, and the thing directly before the text.
unfoldable pub after_fields : ℕ → ℕ → Bool → Before → List ℕ → Option (List ℕ)
after_fields signs commas quoted before [] = if not quoted && signs == commas + 1 then Some [] else None
after_fields signs commas quoted an_escape (b ∷ rest) = after_fields signs commas quoted (if b == backslash then a_backslash else a_byte) rest
after_fields signs commas quoted before (b ∷ rest) =
    if b == backslash then after_fields signs commas quoted an_escape rest
    else if b == quote && nat_lt commas signs then after_fields signs commas (not quoted) a_byte rest
    else if quoted then after_fields signs commas true a_byte rest
    else if b == equals then if has_key before && has_value rest then after_fields (signs + 1) commas false a_byte rest else None
    else if b == space then if signs == commas + 1 then Some (b ∷ rest) else None
    else after_fields signs (if b == comma then commas + 1 else commas) false (divider b before) rest
  where
    has_key : Before → Bool
    has_key a_divider = false
    has_key before = true

    divider : ℕ → Before → Before
    divider b a_backslash = a_byte
    divider b before = if b == comma then a_divider else a_byte

-- The text of a value: the text before the first comma outside of quotes, where a backslash escapes a quote or a backslash. The arguments
-- are whether the text is in quotes, and whether its first byte is escaped.
unfoldable pub value_text : Bool → Bool → List ℕ → List ℕ
value_text quoted escaped [] = []
value_text quoted escaped (b ∷ text) =
    if not quoted && b == comma then []
    else b ∷ value_text (if not escaped && b == quote then not quoted else quoted) (not escaped && b == backslash) text

-- Reads a string: the text of the value without its first and its last byte.
abbrev pub influx_string : List ℕ → Reading (Value Text)
influx_string text =
    let whole = value_text false false text in
    if nat_lt (length whole) 2 then miss
    else reads (string (read_text quotable (take (length whole - 2) (drop 1 whole)))) (drop (length whole) text)

-- Reads a value, as the second scan does.
unfoldable pub influx_value : List ℕ → Reading (Value Text)
influx_value text = if begins_with quote text then influx_string text else (literal text otherwise ended (unsigned_at text))

-- Reads a field.
abbrev pub influx_field : List ℕ → Reading (Pair (List ℕ) (Value Text))
influx_field text =
    let key = until (equals ∷ []) false text in
    byte equals (drop (length key) text) >>= λ sign.
    influx_value sign.rest >>= λ x.
    reads (record { key = key; value = x.value }) x.rest

-- All fields of a text, after which one comma may be left.
abbrev pub whole_fields : List ℕ → Option (List (Pair (List ℕ) (Value Text)))
whole_fields text = whole (separated_list influx_field text)
  where
    whole : Reading (List (Pair (List ℕ) (Value Text))) → Option (List (Pair (List ℕ) (Value Text)))
    whole (reads fields []) = Some fields
    whole (reads fields (b ∷ [])) = if b == comma then Some fields else None
    whole other = None

-- Reads the fields at the start of a text. The first argument is the byte before the text.
abbrev pub influx_fields : ℕ → List ℕ → Reading (List (Pair (List ℕ) (Value Text)))
influx_fields gap text = found (after_fields 0 0 false (if gap == space then a_divider else a_byte) text)
  where
    read : List ℕ → Option (List (Pair (List ℕ) (Value Text))) → Reading (List (Pair (List ℕ) (Value Text)))
    read rest None = miss
    read rest (Some fields) = reads fields rest

    found : Option (List ℕ) → Reading (List (Pair (List ℕ) (Value Text)))
    found None = miss
    found (Some rest) = read rest (whole_fields (front_before text rest))
