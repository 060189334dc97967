pub mod LineSteps
pub mod OwnBases
pub mod Events
pub mod EventsLeft
pub mod Places
pub mod Stops
