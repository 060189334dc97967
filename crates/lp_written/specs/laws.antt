pub mod WrittenKeyLaws
