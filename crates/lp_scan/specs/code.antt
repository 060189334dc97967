pub mod Lanes
pub mod Scan
pub mod Tokens
pub use Lanes.{AllPassBetween, IsRunAt, IsRunIn, first_set, mask_of}
pub use Scan.{mask_at, IsBarePassed, TellsEscaped, TellsBare, TellsEscapesNext}
pub use Tokens.{stops_of, known_of, is_end, is_plain, is_mark, Measurement, TagKey, TagValue, FieldKey, String}
