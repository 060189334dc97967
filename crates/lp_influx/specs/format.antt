pub mod InfluxNames
pub mod InfluxFields
pub mod InfluxLines
