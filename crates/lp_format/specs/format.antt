pub mod Bytes
pub mod Dialects
pub mod Escapes
pub mod Readings
pub mod Names
pub mod Values
pub mod Trimming
pub mod Points
pub mod Piece
pub mod Pieces
pub mod Lines
pub mod Items
pub use Bytes.{nul, tab, newline, space, quote, hash, comma, minus, equals, backslash, letter_i, letter_u, is_one_of, newlines_in}
pub use Dialects.{Dialect, Crate, Strict, NewlineDelimited}
pub use Escapes.{IsBareAfter, bare_after, bare, is_bare_at, escaped_byte, EscapeScan}
unfoldable pub use Escapes.{is_escaped_after, first_bare, without_escapes, escaped}
pub use Readings.{Side, above, below, Fault, measurement_value_invalid, field_set_missing, ends_with_backslash, tag_set_malformed}
pub use Readings.{take_while1, integer_value_invalid, uinteger_value_invalid, timestamp_value_invalid, cannot_parse_entire_line, Text, Read}
pub use Readings.{Reading, miss, fatal, reads, ◌>>=◌, ◌otherwise◌, or_fault}
pub use Names.{NameKind, a_measurement, a_tag_key, a_tag_value, a_field_key, escapable, is_stop, is_escapable, spelled_len, spelled}
pub use Names.{logical, ends_in_backslash, is_one_escape, is_shared, read_text}
unfoldable pub use Names.{name}
pub use Values.{Value, integer, unsigned, float, string, boolean, digits_len, number_len, integer_len, marked_len, fraction_len}
pub use Values.{exponent_len, float_len, IsSigned, IsMarked, IsFloat, fits_i64, side_of, quotable, body_len, longer_front, word_len}
pub use Values.{true_words, false_words}
unfoldable pub use Values.{integer_at, unsigned_at, float_at, string_at, boolean_at, value}
pub use Trimming.{without_front, without_blanks, is_comment_or_empty}
unfoldable pub use Trimming.{trimmed}
pub use Points.{Pair, Tag, Field, Point, IsValue, IsPoint, never_in, is_admitted_tag, is_admitted_field, spelling, built_value, built_tag}
pub use Points.{is_on_one_line, is_value_on_one_line, is_admitted_in, field_text, written_value, built_field, built_fields, built_timestamp, built, built_all, IsAsWritten, IsAsWrittenIn}
unfoldable pub use Points.{is_admitted_name, is_admitted_point, line_of}
pub use Piece.{IsHead, HasMoreEquals, IsPlain, Opens, IsQuoted, EndsPlain, EndsQuoted, IsClosed, IsOpen}
pub use Pieces.{begins_comment, HasNoNewline, IsComment, IsCutPiece, IsLastPiece, IsFirstCut, Left, PiecesLeft, GivesPiece, most_pieces}
pub use Lines.{Line, logical_value, logical_tag, logical_field, some_tags, point_of, byte, key_value, after_comma, prepend, many}
pub use Lines.{separated_list, tag_set, without_comma, field_set, spaces, timestamp, complete, front_before}
unfoldable pub use Lines.{tag, field, answer}
pub use Items.{answers_of, HasAnswers, item_of, HasItems}
unfoldable pub use Items.{answers_of_piece}
