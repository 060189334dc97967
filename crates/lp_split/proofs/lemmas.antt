pub mod split
pub mod stream
