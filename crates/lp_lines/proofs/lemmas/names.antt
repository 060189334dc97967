pub mod KeptNames
pub mod ParsedNames
pub mod Spellings
