pub mod Read
pub mod Line
