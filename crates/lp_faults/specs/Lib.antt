pub mod Editors
pub mod FaultsTold
pub mod Kinds
pub mod Objects
pub mod Refusals
pub mod Relaying
