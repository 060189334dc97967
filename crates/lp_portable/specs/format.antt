pub mod Spellings
pub mod Portable
pub use Spellings.{AreAfterCommas, AreJoined, IsSpelled, Spelling, holds, key_text, name_text, tag_text}
pub use Portable.{Clause, IsOneLine, IsPortable, Limits, Servers, breaks, concerns, default_limits}
