pub mod bases
pub mod events
pub mod fields
pub mod lines
pub mod pull
pub mod stops
