pub mod FieldLemmas
pub mod KeptLemmas
pub mod TimeLemmas
pub mod SeriesLemmas
pub mod CountLemmas
pub mod KeptCounts
pub mod TextLemmas
pub mod WorkedCounts
