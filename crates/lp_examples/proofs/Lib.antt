pub mod Groups
pub mod Readings
