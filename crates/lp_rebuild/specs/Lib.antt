pub mod Devices
pub mod Rebuilding
pub mod RebuildSteps
pub mod Running
