pub mod SplitBare
pub mod SplitPieces
