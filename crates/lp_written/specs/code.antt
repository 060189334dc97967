pub mod AsWritten
pub mod WrittenKeys
