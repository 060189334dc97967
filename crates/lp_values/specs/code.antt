pub mod RawTokens
pub mod Texts
pub mod Outcomes
pub mod Faults
pub mod ReadValues
pub mod SpelledParts
