pub mod BaseLaws
pub mod KeyLaws
