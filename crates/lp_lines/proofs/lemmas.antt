pub mod line
pub mod meanings
pub mod names
pub mod read_back
pub mod series
