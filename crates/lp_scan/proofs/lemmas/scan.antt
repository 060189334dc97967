pub mod BareMasks
pub mod MaskLemmas
