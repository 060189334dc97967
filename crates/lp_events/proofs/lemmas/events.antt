pub mod LineEvents
pub mod PlacedParts
