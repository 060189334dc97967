pub mod Counted
pub mod Inputs
pub mod Starts
pub mod WholeLines
