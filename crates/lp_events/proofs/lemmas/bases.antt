pub mod ByteOrder
pub mod KeptKeys
pub mod ReadNames
