pub mod Endings
pub mod RunErrors
pub mod Summaries
