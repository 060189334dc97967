pub mod ItemLemmas
pub mod KindLemmas
pub mod ReturnLemmas
