pub mod format
pub mod code
pub mod laws
