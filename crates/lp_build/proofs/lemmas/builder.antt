pub mod BuilderLemmas
pub mod WrittenAgainLemmas
