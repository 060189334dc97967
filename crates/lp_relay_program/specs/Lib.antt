pub mod TimeWords
pub mod Words
