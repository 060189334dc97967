pub mod WrittenNames
pub mod WrittenNumbers
pub mod WrittenKeys
pub mod WrittenLines
