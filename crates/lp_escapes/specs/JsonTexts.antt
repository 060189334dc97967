-- Texts in strings of JSON.
use Rattle.std.specs.Prelude.{ℕ, ◌+◌, ◌/◌, ◌%◌, ◌==◌, ◌&&◌, ◌||◌, nat_lt, Bool, List, [], ◌∷◌, ◌++◌, codes, length, take, if◌then◌else◌}
use Rattle.std.specs.List.{flat_map}
use Rattle.std.specs.Char.{encode_utf8}
use Rattle.std.specs.Str.{chars, is_utf8}
use Rattle.std.specs.Str.Lossy.{utf8_valid_len}
use Rattle.base64.specs.Engines.{standard}
use Rattle.base64.specs.GeneralPurpose.{encode_of}
use Rattle.lp_format.specs.format.Bytes.{backslash}
use Rattle.lp_escapes.specs.Told.{cut_mark, hex_digit}

-- whether a character is a control character: one of those below the space, and from U+007F to U+009F
abbrev pub is_control : ℕ → Bool
is_control c = nat_lt c 32 || (nat_lt 126 c && nat_lt c 160)

-- whether a character separates lines or sets the direction of text: U+061C, U+200E, U+200F, U+2028 to U+202E, or U+2066 to U+2069
abbrev pub is_layout_mark : ℕ → Bool
is_layout_mark c =
    c == 0x61C || (nat_lt 0x200D c && nat_lt c 0x2010) || (nat_lt 0x2027 c && nat_lt c 0x202F) || (nat_lt 0x2065 c && nat_lt c 0x206A)

-- whether a character has an escape in a string of JSON: a quote, a backslash, a control character, or a layout mark
abbrev pub is_escaped : ℕ → Bool
is_escaped c = is_control c || c == 34 || c == backslash || is_layout_mark c

-- the escape of a character below U+10000: a backslash before a quote or a backslash, and else its four hexadecimal digits
abbrev pub escape_of : ℕ → List ℕ
escape_of c =
    if c == 34 then backslash ∷ 34 ∷ []
    else (if c == backslash then backslash ∷ backslash ∷ []
    else backslash ∷ codes "u"
    ++ hex_digit ((c / 4096) % 16) ∷ hex_digit ((c / 256) % 16) ∷ hex_digit ((c / 16) % 16) ∷ hex_digit (c % 16) ∷ [])

-- a character in a string of JSON
abbrev pub json_character : ℕ → List ℕ
json_character c = if is_escaped c then escape_of c else encode_utf8 c

-- a text in a string of JSON, without the quotes
abbrev pub json_text : List ℕ → List ℕ
json_text text = flat_map json_character (chars text)

-- the longest front of bytes that is UTF-8: what comes before the first byte at which they are not
abbrev pub utf8_front : List ℕ → List ℕ
utf8_front bytes = take (utf8_valid_len bytes) bytes

-- a text in a string of JSON, of which no more is told than of a fault line: if it has more than 200 bytes, the characters that end
-- within the first 200, and how many bytes it has
abbrev pub cut_json_text : List ℕ → List ℕ
cut_json_text text =
    if nat_lt 200 (length text) then json_text (utf8_front (take 200 text)) ++ cut_mark (length text) else json_text text

-- bytes as the end of a name and a string of JSON: their text, or in base64 if they are not UTF-8
abbrev pub bytes_string : List ℕ → List ℕ
bytes_string bytes =
    if is_utf8 bytes then codes "\":\"" ++ json_text bytes ++ codes "\"" else codes "_base64\":\"" ++ encode_of standard bytes ++ codes "\""
