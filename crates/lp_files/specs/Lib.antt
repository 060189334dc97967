pub mod Batches
pub mod Destinations
pub mod Files
