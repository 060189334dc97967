pub mod CutLemmas
pub mod JumpLemmas
pub mod PartEndLemmas
pub mod PartLemmas
pub mod WalkLemmas
pub mod WindowLemmas
