pub mod ParsedSeries
