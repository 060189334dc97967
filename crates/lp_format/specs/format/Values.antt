-- Values of fields.
use Rattle.std.specs.Prelude.{◌≡◌, ◌⊎◌, ◌++◌, ℕ, ℤ, pos, negsuc, ◌+◌, ◌-◌, ◌^◌, ◌==◌, ◌&&◌, Bool, true, false, not, List, [], ◌∷◌, length}
use Rattle.std.specs.Prelude.{take, drop, slice_index, codes, if◌then◌else◌, nat_lt, int_le, int_lt}
use Rattle.std.specs.{List.fold, List.prefix_len, List.starts_with, Char.is_ascii_digit}
use Rattle.std.specs.Str.Parse.{IsNumeral, digits_value, signed_digits_value}
use Rattle.lp_format.specs.format.Bytes.{quote, minus, backslash, letter_i, letter_u, is_one_of}
use Rattle.lp_format.specs.format.{Escapes.first_bare, Names.read_text}
use Rattle.lp_format.specs.format.Readings.{Side, above, below, integer_value_invalid, uinteger_value_invalid, Text, Reading, miss, fatal}
use Rattle.lp_format.specs.format.Readings.{reads, ◌otherwise◌}

-- a value of a field, whose strings have the type `T`
pub data Value (T : Type 0) : Type 0 where
  integer : ℤ → Value T
  unsigned : ℕ → Value T
  float : List ℕ → Value T
  string : T → Value T
  boolean : Bool → Value T

-- how many digits are at the start of a text
abbrev pub digits_len : List ℕ → ℕ
digits_len text = prefix_len is_ascii_digit text

-- how many bytes the number at the start of a text has, with at most one of these signs before it; 0 if there is no number
abbrev pub number_len : List ℕ → List ℕ → ℕ
number_len signs text =
    let sign = if is_one_of signs (slice_index text 0) then 1 else 0 in
    if digits_len (drop sign text) == 0 then 0 else sign + digits_len (drop sign text)

-- how many bytes the longest front of the form -?D has, and 0 if there is none
abbrev pub integer_len : List ℕ → ℕ
integer_len text = number_len (codes "-") text

-- how many bytes a mark and the part after it have at the start of a text, and 0 if the mark or the part is missing
abbrev pub marked_len : List ℕ → (List ℕ → ℕ) → List ℕ → ℕ
marked_len marks part text = if is_one_of marks (slice_index text 0) && nat_lt 0 (part (drop 1 text)) then 1 + part (drop 1 text) else 0

-- how many bytes a point and the digits after it have at the start of a text
abbrev pub fraction_len : List ℕ → ℕ
fraction_len text = marked_len (codes ".") digits_len text

-- how many bytes an `e` or `E` and the number after it have at the start of a text
abbrev pub exponent_len : List ℕ → ℕ
exponent_len text = marked_len (codes "eE") (number_len (codes "+-")) text

-- how many bytes the longest front of the form -?D(.D)?([eE][+-]?D)? has, and 0 if there is none
abbrev pub float_len : List ℕ → ℕ
float_len text =
    let whole = integer_len text in
    let fraction = fraction_len (drop whole text) in
    if whole == 0 then 0 else whole + fraction + exponent_len (drop (whole + fraction) text)

-- a text of digits with at most one of these signs before them
abbrev pub IsSigned : List ℕ → List ℕ → Type 0
IsSigned signs [] = ⊥
IsSigned signs (b ∷ digits) = ((is_one_of signs b ≡ true) × IsNumeral 10 digits) ⊎ IsNumeral 10 (b ∷ digits)

-- an empty text, or one of these marks and a part after it
abbrev pub IsMarked : List ℕ → (List ℕ → Type 0) → List ℕ → Type 0
IsMarked marks Part [] = Unit {0}
IsMarked marks Part (b ∷ part) = (is_one_of marks b ≡ true) × Part part

-- a float literal: a text of the form -?D(.D)?([eE][+-]?D)?
abbrev pub IsFloat : List ℕ → Type 0
IsFloat text =
    (whole fraction exponent : List ℕ) × (text ≡ whole ++ (fraction ++ exponent))
    × IsSigned (codes "-") whole × IsMarked (codes ".") (IsNumeral 10) fraction × IsMarked (codes "eE") (IsSigned (codes "+-")) exponent

-- whether the number fits an i64
abbrev pub fits_i64 : ℤ → Bool
fits_i64 z = int_le (negsuc (2 ^ 63 - 1)) z && int_lt z (pos (2 ^ 63))

-- the side on which the number of this text is out of range: below if the text begins with a minus sign
abbrev pub side_of : List ℕ → Side
side_of number = if slice_index number 0 == minus then below else above

-- reads an integer: -?D and `i`; an integer out of range is fatal
unfoldable pub integer_at : List ℕ → Reading (Value Text)
integer_at text =
    let number = take (integer_len text) text in
    if not (integer_len text == 0) && slice_index text (integer_len text) == letter_i then
    if fits_i64 (signed_digits_value 10 number)
    then reads (integer (signed_digits_value 10 number)) (drop (integer_len text + 1) text)
    else fatal (integer_value_invalid (side_of number) number)
    else miss

-- reads an unsigned integer: D and `u`; a number out of range is fatal
unfoldable pub unsigned_at : List ℕ → Reading (Value Text)
unsigned_at text =
    let number = take (digits_len text) text in
    if not (digits_len text == 0) && slice_index text (digits_len text) == letter_u then
    if nat_lt (digits_value 10 number) (2 ^ 64)
    then reads (unsigned (digits_value 10 number)) (drop (digits_len text + 1) text)
    else fatal (uinteger_value_invalid above number)
    else miss

-- reads a float: the longest front that is a float literal
unfoldable pub float_at : List ℕ → Reading (Value Text)
float_at text = if float_len text == 0 then miss else reads (float (take (float_len text) text)) (drop (float_len text) text)

-- the bytes that a backslash may escape in a string
abbrev pub quotable : List ℕ
quotable = quote ∷ backslash ∷ []

-- how many bytes come before the first bare quote of a text, or all if there is none: the body of a string after its opening quote
abbrev pub body_len : List ℕ → ℕ
body_len after = first_bare (λ b. b == quote) after

-- reads a string: a quote, a body and the next quote that is bare in the body
unfoldable pub string_at : List ℕ → Reading (Value Text)
string_at [] = miss
string_at (b ∷ after) =
    if b == quote && nat_lt (body_len after) (length after)
    then reads (string (read_text quotable (take (body_len after) after))) (drop (body_len after + 1) after)
    else miss

-- the length of a word if the text begins with it and it is longer than `n`, else `n`
abbrev pub longer_front : List ℕ → ℕ → List ℕ → ℕ
longer_front text n word = if starts_with (λ a b. a == b) text word && nat_lt n (length word) then length word else n

-- how many bytes the longest of these words at the start of a text has, and 0 if no word is there
abbrev pub word_len : List (List ℕ) → List ℕ → ℕ
word_len words text = fold (λ n word. longer_front text n word) 0 words

-- the words for true
abbrev pub true_words : List (List ℕ)
true_words = codes "true" ∷ codes "True" ∷ codes "TRUE" ∷ codes "t" ∷ codes "T" ∷ []

-- the words for false
abbrev pub false_words : List (List ℕ)
false_words = codes "false" ∷ codes "False" ∷ codes "FALSE" ∷ codes "f" ∷ codes "F" ∷ []

-- reads the Boolean `b`: the longest of its words
unfoldable pub boolean_at : Bool → List (List ℕ) → List ℕ → Reading (Value Text)
boolean_at b words text = if word_len words text == 0 then miss else reads (boolean b) (drop (word_len words text) text)

-- reads the value at the start of a text, by the first case that does not miss
unfoldable pub value : List ℕ → Reading (Value Text)
value text =
    integer_at text otherwise unsigned_at text otherwise float_at text otherwise string_at text
    otherwise boolean_at true true_words text otherwise boolean_at false false_words text
