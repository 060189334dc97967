pub mod Light
pub mod Shown
