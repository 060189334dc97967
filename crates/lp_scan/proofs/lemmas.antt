pub mod lanes
pub mod scan
