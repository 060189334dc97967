pub mod SharedTexts
pub mod TokenLemmas
pub mod WalkLemmas
