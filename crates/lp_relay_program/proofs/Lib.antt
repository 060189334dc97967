pub mod TimeLemmas
pub mod LastWords
