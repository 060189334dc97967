pub mod Filled
pub mod AnsweredLines
