pub mod LinePieces
pub mod LineReadsBack
