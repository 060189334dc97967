pub mod Steps
pub mod Moving
pub mod Parts
pub mod RebuildLemmas
pub mod BatchLemmas
