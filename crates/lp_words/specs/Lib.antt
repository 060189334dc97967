pub mod BatchNames
pub mod Options
pub mod Paths
pub mod Plain
pub mod Refusals
pub mod Wrong
