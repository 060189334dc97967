pub mod JsonTexts
pub mod Told
