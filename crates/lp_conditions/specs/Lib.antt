pub mod Differing
pub mod FieldTypes
pub mod KindCounts
pub mod LineEnds
pub mod LineTimes
pub mod Portables
pub mod TypeSteps
pub mod Verdicts
