pub mod JsonTexts
pub mod OneLine
