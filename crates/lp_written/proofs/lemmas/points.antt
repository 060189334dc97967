pub mod LinesArePoints
