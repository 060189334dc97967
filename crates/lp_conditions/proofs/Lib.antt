pub mod CountLemmas
pub mod DifferingLemmas
pub mod FieldTypeLemmas
pub mod LineEndLemmas
pub mod PortableTexts
pub mod TimeLemmas
pub mod VerdictLemmas
