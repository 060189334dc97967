pub mod BaseLemmas
pub mod BasesTellSeries
pub mod KeyParts
pub mod KeyTexts
pub mod RankOrder
pub mod SortedByKey
pub mod SortedTags
