pub use Rattle.lp_format.specs.format
pub mod code
pub mod laws
pub mod types
