pub mod tokens
pub mod digits
pub mod fields
