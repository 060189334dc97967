pub mod Built
pub mod WrittenAgain
