-- The kinds of token: the bytes that end each kind, and the bytes that a backslash escapes in it.
use Rattle.std.specs.Prelude.{ℕ, ◌==◌, ◌||◌, Bool, not, List}
use Rattle.lp_format.specs.format.{quote, backslash, is_one_of, a_measurement, a_tag_key, a_tag_value, a_field_key, is_stop, escapable}
use Rattle.lp_format.specs.format.{quotable}
pub use Rattle.lp_scan.specs.declared.sets.TokenKind.{TokenKind}
pub use Rattle.lp_scan.specs.declared.sets.TokenKind.TheVariants.{Measurement, TagKey, TagValue, FieldKey, String}

-- whether a byte ends a token of this kind if it is bare
abbrev pub stops_of : TokenKind → ℕ → Bool
stops_of Measurement = λ b. is_stop a_measurement b
stops_of TagKey = λ b. is_stop a_tag_key b
stops_of TagValue = λ b. is_stop a_tag_value b
stops_of FieldKey = λ b. is_stop a_field_key b
stops_of String = λ b. b == quote

-- the bytes that a backslash escapes in a token of this kind
abbrev pub known_of : TokenKind → List ℕ
known_of Measurement = escapable a_measurement
known_of TagKey = escapable a_tag_key
known_of TagValue = escapable a_tag_value
known_of FieldKey = escapable a_field_key
known_of String = quotable

-- whether a byte passes the test or is a backslash
abbrev pub is_end : (ℕ → Bool) → ℕ → Bool
is_end stops b = stops b || b == backslash

-- whether a byte neither passes the test nor is a backslash
abbrev pub is_plain : (ℕ → Bool) → ℕ → Bool
is_plain stops b = not (is_end stops b)

-- whether a byte ends a token of this kind if it is bare, or is a byte that a backslash escapes in it
abbrev pub is_mark : TokenKind → ℕ → Bool
is_mark kind b = stops_of kind b || is_one_of (known_of kind) b
