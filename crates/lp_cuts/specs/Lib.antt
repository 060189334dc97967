pub mod CutSteps
pub mod Cuts
pub mod Windows
