pub mod Inversions
pub mod NameLemmas
