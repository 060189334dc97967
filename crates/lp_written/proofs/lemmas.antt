pub mod parts
pub mod points
