pub mod FirstMarks
pub mod ScanLemmas
pub mod SplitSearches
pub mod SplitStretches
pub mod SplitWalk
pub mod TrackedPieces
