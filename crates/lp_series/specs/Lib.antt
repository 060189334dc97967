pub mod Counting
pub mod CountSteps
pub mod Texts
pub mod TextSteps
